-- A batch that is being run: where the machine stands, and the numbers of its events.
use Rattle.std.specs.Prelude.{◌≡◌, ℕ, ◌+◌, ◌<◌, ◌≤◌, All, None, is_none, if◌then◌else◌}
use Rattle.records.specs.Machine.{Machine}
use Rattle.records.specs.Chains.{Rules}
use Rattle.records.specs.Step.{max_clock}
use Rattle.chain.specs.Tables.{State}

-- a machine in a batch of this clock, before the event of this timestamp: all that it holds is
-- earlier
pub record IsInBatch (m : Machine) (clock timestamp : ℕ) : Type 0 where
  pub at : m.clock ≡ clock
  pub after_accounts : All (λ a. a.timestamp < timestamp) m.accounts
  pub after_transfers : All (λ t. t.timestamp < timestamp) m.transfers

-- such a machine between two chains of the batch: no mark is open
pub record IsBetweenChains (s : State) (clock timestamp : ℕ) : Type 0 where
  pub in_batch : IsInBatch s.now clock timestamp
  pub unmarked : s.marked ≡ None

-- this clock and the timestamps of so many events, this one the first, are those of one batch
pub record IsInTime (clock timestamp events : ℕ) : Type 0 where
  pub bounded : clock ≤ max_clock
  pub positive : 0 < timestamp
  pub in_batch : clock < timestamp + 1000
  pub by_clock : timestamp + events ≤ clock + 1

-- the machine after one event: with its record, unless it is refused
abbrev pub after_event : {E R : Type 0} → Rules E R → Machine → E → ℕ → Machine
after_event rules m ev timestamp =
    if is_none (rules.verdict m ev) then rules.after m ev timestamp else m
