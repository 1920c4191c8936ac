-- What a running tenant says of a machine.
use Rattle.std.specs.Prelude.{◌≡◌, ℕ, ◌<◌, All, []}
use Rattle.records.specs.Machine.{Machine}
use Rattle.records.specs.Valid.{IsValid}
use Rattle.rows.specs.TypedRows.{TypedRows}
use Rattle.rows.specs.Prescribed.{rows_for}
use Rattle.running.specs.declared.running.Running.{Running}
use Rattle.running.specs.Holds.{HoldsAccounts, HoldsTransfers, HoldsStatuses}

-- it holds these rows, but for the clock, history and failed ids
pub record Agrees (rows : TypedRows) (r : Running) : Type 0 where
  pub accounts : HoldsAccounts rows.accounts rows.balances r.accounts
  pub transfers : HoldsTransfers rows.transfers r.transfers
  pub statuses : HoldsStatuses rows.statuses r.statuses

-- a timestamp behind those of all entries
pub record IsAfterEntries (m : Machine) (timestamp : ℕ) : Type 0 where
  pub positive : 0 < timestamp
  pub accounts : All (λ a. a.timestamp < timestamp) m.accounts
  pub transfers : All (λ t. t.timestamp < timestamp) m.transfers

-- the greatest timestamp of an entry, or 0 without one
pub record IsLast (m : Machine) (last : ℕ) : Type 0 where
  pub after : (timestamp : ℕ) → last < timestamp → IsAfterEntries m timestamp
  pub only_after : (timestamp : ℕ) → IsAfterEntries m timestamp → last < timestamp

-- it holds the rows of a valid machine in which no id has failed
pub record IsRunning (m : Machine) (r : Running) : Type 0 where
  pub valid : IsValid m
  pub none_failed : m.failed ≡ []
  pub clock : r.clock ≡ m.clock
  pub last : IsLast m r.last
  pub agrees : Agrees (rows_for 3 m) r
