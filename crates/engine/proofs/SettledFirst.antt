-- Settling a machine before a batch.
use Rattle.std.proofs.Common.{◌≡◌, ℕ, ◌≤◌, false, nat_lt, cond, List, [], length, sym, ap, ◌∙◌, arith}
use Rattle.std.proofs.lemmas.Bool.{le-ltb}
use Rattle.records.specs.Machine.{Machine}
use Rattle.records.specs.Chains.{Rules, chains_of, chains_results, after_chains}
use Rattle.records.specs.Step.{Outcome, Answered, Exhausted, at_clock, clock_after, first_timestamp, max_clock, step_machine, step_outcome, transfer_rules, with_timestamps}
use Rattle.engine.specs.Settling.{IsSettledFirst, SettlesFirst}

-- a time is within the clock's bound
within : (clock : ℕ) → clock ≤ max_clock → nat_lt max_clock clock ≡ false
within clock le = le-ltb max_clock clock le

-- the clock after a batch is what it would be
same_clock : (m : Machine) (time many moment : ℕ) → m.clock ≤ time → time ≤ moment → clock_after (at_clock m time) many moment ≡ clock_after m many moment
same_clock m time many moment later early = omega arith

-- a batch of no events sets the clock
pub settled_by_none : (m : Machine) (time : ℕ) → m.clock ≤ time → time ≤ max_clock → step_machine transfer_rules m [] time ≡ at_clock m time
unfolding step_machine chains_of after_chains
settled_by_none m time later bounded =
    let clock = clock_after m 0 time in
    let is : clock ≡ time = omega arith in
    ap (λ b. cond b m (at_clock m clock)) (within clock (omega arith)) ∙ ap (at_clock m) is

module _ {E R : Type 0} (rules : Rules E R) (m : Machine) (time : ℕ) (batch : List E) (moment : ℕ) where
  abbrev many : ℕ
  many = length batch

  -- what a batch is told, and what it leaves, where its clock is so
  abbrev told_at : ℕ → Outcome R
  told_at clock =
      cond (nat_lt max_clock clock) Exhausted
      (Answered clock (with_timestamps (first_timestamp clock many) (chains_results rules (at_clock m clock) (chains_of rules.linked batch) (first_timestamp clock many))))

  abbrev left_at : ℕ → Machine
  left_at clock = after_chains rules (at_clock m clock) (chains_of rules.linked batch) (first_timestamp clock many)

  module _ (later : m.clock ≤ time) (early : time ≤ moment) where
    told_same : step_outcome rules (at_clock m time) batch moment ≡ step_outcome rules m batch moment
    unfolding step_outcome
    told_same = ap told_at (same_clock m time many moment later early)

    left_same : clock_after m many moment ≤ max_clock → step_machine rules (at_clock m time) batch moment ≡ step_machine rules m batch moment
    unfolding step_machine
    left_same bounded =
        let now = clock_after (at_clock m time) many moment in
        let clock = clock_after m many moment in
        let same = same_clock m time many moment later early in
        ap (λ b. cond b (at_clock m time) (left_at now)) (within now (omega arith))
        ∙ ap left_at same
        ∙ sym (ap (λ b. cond b m (left_at clock)) (within clock bounded))

    settled_first : IsSettledFirst rules m time batch moment
    settled_first = record { told = told_same; left = left_same }

pub settles_first : {E R : Type 0} (rules : Rules E R) → SettlesFirst rules
settles_first rules m time batch moment later early = settled_first rules m time batch moment later early
