-- What becomes of events that are sent again.
use Rattle.std.specs.Prelude.{◌≡◌, ℕ, ◌-◌, List, ◌∷◌, replicate, map, All}
use Rattle.std.specs.List.{flat_map}
use Rattle.records.specs.Machine.{Machine}
use Rattle.records.specs.Chains.{Rules, Chain, chains_of, chain_size}
use Rattle.records.specs.Step.{Outcome, Answered, Exhausted, step_outcome, step_machine, at_clock}
use Rattle.records.specs.Later.{IsLater}

-- every event of the batch was accepted
abbrev pub AllAccepted : {E R : Type 0} → Rules E R → Outcome R → Type 0
AllAccepted rules (Answered clock results) = All (λ told. told.result ≡ rules.accepted) results
AllAccepted rules Exhausted = ⊥

-- of a chain that is sent again the first event exists, and the others fall with it
abbrev pub retried_chain : {E R : Type 0} → Rules E R → R → Chain E → List R
retried_chain rules exists chain = exists ∷ replicate (chain_size chain - 1) rules.chain_failed

-- so it is told of each chain, unless the clock has come to its end
abbrev pub IsToldExists : {E R : Type 0} → Rules E R → R → List E → Outcome R → Type 0
IsToldExists rules exists batch (Answered clock results) =
    map (λ told. told.result) results
    ≡ flat_map (retried_chain rules exists) (chains_of rules.linked batch)
IsToldExists rules exists batch Exhausted = Unit {0}

-- a batch that changes nothing but the clock, and is told that all of it exists
pub record AddsNothing
    {E R : Type 0} (rules : Rules E R) (exists : R) (m : Machine) (batch : List E) (moment : ℕ)
    : Type 0 where
  pub same :
      step_machine rules m batch moment
      ≡ at_clock m (step_machine rules m batch moment).clock
  pub told : IsToldExists rules exists batch (step_outcome rules m batch moment)

-- a batch whose every event was accepted adds nothing when it is sent again to any later machine
abbrev pub RetryAddsNothing : {E R : Type 0} → Rules E R → R → Type 0
RetryAddsNothing {E} rules exists =
    (m later : Machine) (batch : List E) (moment again : ℕ) →
    AllAccepted rules (step_outcome rules m batch moment) →
    IsLater (step_machine rules m batch moment) later →
    AddsNothing rules exists later batch again
