-- A machine that is settled before a batch.
use Rattle.std.specs.Prelude.{◌≡◌, ℕ, ◌≤◌, List, length}
use Rattle.records.specs.Machine.{Machine}
use Rattle.records.specs.Chains.{Rules}
use Rattle.records.specs.Step.{at_clock, clock_after, max_clock, step_machine, step_outcome}

-- where a machine was settled to a time before a batch's moment, the batch is told what it would be
-- without that; and it leaves the same machine, unless the clock comes to its end
pub record IsSettledFirst {E R : Type 0} (rules : Rules E R) (m : Machine) (time : ℕ)
    (batch : List E) (moment : ℕ) : Type 0 where
  pub told : step_outcome rules (at_clock m time) batch moment ≡ step_outcome rules m batch moment
  pub left :
      clock_after m (length batch) moment ≤ max_clock →
      step_machine rules (at_clock m time) batch moment ≡ step_machine rules m batch moment

-- so it is for every batch, at every moment from that time on
abbrev pub SettlesFirst : {E R : Type 0} → Rules E R → Type 0
SettlesFirst {E} rules =
    (m : Machine) (time : ℕ) (batch : List E) (moment : ℕ) →
    m.clock ≤ time → time ≤ moment → IsSettledFirst rules m time batch moment
