-- What a follower of a ledger relies on: what was told up to a clock stays, and all that is new
-- lies behind that clock.
use Rattle.std.specs.Prelude.{◌≡◌, ℕ, ◌<◌, ◌≤◌, All, List, ◌++◌}
use Rattle.records.specs.declared.query.QueryFilter.{QueryFilter}
use Rattle.records.specs.declared.query.Span.{Span}
use Rattle.records.specs.Chains.{Rules}
use Rattle.records.specs.Machine.{Machine}
use Rattle.records.specs.Queries.{accounts_within, transfers_within, last_time, queried_transfers}
use Rattle.records.specs.Step.{Outcome, Answered, Exhausted, step_outcome, step_machine}

-- a list that goes on behind another one, by records that are all later than a time
pub record GoesOnBehind {A : Type 0} (time : A → ℕ) (bound : ℕ) (old new : List A) : Type 0 where
  pub more : List A
  pub is : new ≡ old ++ more
  pub behind : All (λ it. bound < time it) more

-- a machine that goes on from an old one behind a time
pub record MachineGoesOn (bound : ℕ) (old new : Machine) : Type 0 where
  pub accounts : GoesOnBehind (λ account. account.timestamp) bound old.accounts new.accounts
  pub transfers : GoesOnBehind (λ transfer. transfer.timestamp) bound old.transfers new.transfers
  pub clock : old.clock ≤ new.clock

-- a machine that continues an old one: all entries of the old one are kept in place, and those that
-- are new are later than its clock
abbrev pub ContinuesAfter : Machine → Machine → Type 0
ContinuesAfter old new = MachineGoesOn old.clock old new

-- every batch at every moment leads to a machine that continues the one before it
abbrev pub StepsContinue : {E R : Type 0} → Rules E R → Type 0
StepsContinue {E} rules =
    (m : Machine) (batch : List E) (moment : ℕ) →
    ContinuesAfter m (step_machine rules m batch moment)

-- what a batch is told is told at this clock
abbrev pub TellsClock : {R : Type 0} → Outcome R → ℕ → Type 0
TellsClock (Answered clock results) now = clock ≡ now
TellsClock Exhausted now = Unit {0}

-- the clock that a batch is told is that of the machine after it
abbrev pub StepsTellClock : {E R : Type 0} → Rules E R → Type 0
StepsTellClock {E} rules =
    (m : Machine) (batch : List E) (moment : ℕ) →
    TellsClock (step_outcome rules m batch moment) (step_machine rules m batch moment).clock

-- what lies in a span of time is told again
pub record IsToldAgain (old new : Machine) (span : Span) : Type 0 where
  pub accounts : accounts_within new span ≡ accounts_within old span
  pub transfers : transfers_within new span ≡ transfers_within old span

-- so it is where the span ends by the old clock
abbrev pub SpansStay : Type 0
SpansStay =
    (old new : Machine) → ContinuesAfter old new →
    (span : Span) → span.last ≤ old.clock → IsToldAgain old new span

-- and a page of transfers whose bound is not beyond that clock stays the same
abbrev pub PagesStay : Type 0
PagesStay =
    (old new : Machine) → ContinuesAfter old new →
    (asked : QueryFilter) → last_time asked.page.timestamp_max ≤ old.clock →
    queried_transfers new asked ≡ queried_transfers old asked
