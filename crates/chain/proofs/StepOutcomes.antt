-- The machine's step where the clock comes to its end, and where it does not.
use Rattle.std.proofs.Common.{◌≡◌, ℕ, ◌+◌, ◌-◌, ◌<◌, ◌≤◌, true, false, nat_lt, max, List, length}
use Rattle.std.proofs.Common.{arith}
use Rattle.std.proofs.lemmas.Bool.Decides.{nat_tests}
use Rattle.records.specs.Machine.{Machine}
use Rattle.records.specs.Chains.{Rules, chains_of, chains_results, after_chains}
use Rattle.records.specs.Step.{Answered, Exhausted, max_clock, at_clock, with_timestamps}
use Rattle.records.specs.Step.{step_outcome, step_machine}

late : (clock : ℕ) → max_clock < clock → nat_lt max_clock clock ≡ true
late clock h = grind (arith, nat_tests)

in_time : (clock : ℕ) → clock ≤ max_clock → nat_lt max_clock clock ≡ false
in_time clock h = grind (arith, nat_tests)

pub outcome_exhausted :
    {E R : Type 0} (rules : Rules E R) (m : Machine) (batch : List E) (moment : ℕ) →
    max_clock < max moment m.clock + length batch → step_outcome rules m batch moment ≡ Exhausted
unfolding step_outcome
outcome_exhausted rules m batch moment h = rw (late (max moment m.clock + length batch) h)

pub machine_exhausted :
    {E R : Type 0} (rules : Rules E R) (m : Machine) (batch : List E) (moment : ℕ) →
    max_clock < max moment m.clock + length batch → step_machine rules m batch moment ≡ m
unfolding step_machine
machine_exhausted rules m batch moment h = rw (late (max moment m.clock + length batch) h)

pub outcome_answered :
    {E R : Type 0} (rules : Rules E R) (m : Machine) (batch : List E) (moment clock : ℕ) →
    clock ≡ max moment m.clock + length batch → clock ≤ max_clock →
    step_outcome rules m batch moment
    ≡ Answered clock
    (with_timestamps (clock - length batch + 1)
    (chains_results rules (at_clock m clock) (chains_of rules.linked batch)
    (clock - length batch + 1)))
unfolding step_outcome
outcome_answered rules m batch moment clock is h = rw (← is, in_time clock h)

pub machine_answered :
    {E R : Type 0} (rules : Rules E R) (m : Machine) (batch : List E) (moment clock : ℕ) →
    clock ≡ max moment m.clock + length batch → clock ≤ max_clock →
    step_machine rules m batch moment
    ≡ after_chains rules (at_clock m clock) (chains_of rules.linked batch)
    (clock - length batch + 1)
unfolding step_machine
machine_answered rules m batch moment clock is h = rw (← is, in_time clock h)
