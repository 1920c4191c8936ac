-- What holds of a machine and its entries, one by one.
use Rattle.std.specs.Prelude.{◌≡◌, ◌↔◌, ℕ, ◌+◌, ◌<◌, ◌≤◌, [], All}
use Rattle.records.specs.Machine.{Machine, new_machine}
use Rattle.records.specs.Step.{at_clock}
use Rattle.records.specs.Valid.{IsValid, with_account, with_transfer}
use Rattle.records.specs.EntryByEntry.{entries_before, AreTimestampsApart, IsValidEntryByEntry}

-- a machine is valid exactly if it is so entry by entry
abbrev pub ValidExactlyEntryByEntry : Type 0
ValidExactlyEntryByEntry = (m : Machine) → IsValid m ↔ IsValidEntryByEntry m

-- all entries have this timestamp or a later one
pub record StartsAt (m : Machine) (timestamp : ℕ) : Type 0 where
  pub accounts : All (λ a. timestamp ≤ a.timestamp) m.accounts
  pub transfers : All (λ t. timestamp ≤ t.timestamp) m.transfers

-- all entries have an earlier one
pub record EndsBefore (m : Machine) (timestamp : ℕ) : Type 0 where
  pub accounts : All (λ a. a.timestamp < timestamp) m.accounts
  pub transfers : All (λ t. t.timestamp < timestamp) m.transfers

-- no entry has one from the first timestamp up to the second
pub record HasNoneBetween (m : Machine) (from to : ℕ) : Type 0 where
  pub in_order : from ≤ to
  pub accounts : All (λ a. from ≤ a.timestamp → to ≤ a.timestamp) m.accounts
  pub transfers : All (λ t. from ≤ t.timestamp → to ≤ t.timestamp) m.transfers

-- the entries before a timestamp, as timestamps go on: none at first, each entry behind those
-- before it, the same where no entry stands between, and at the end all
pub record ComeInTurn (m : Machine) (clock : ℕ) : Type 0 where
  pub first :
      (timestamp : ℕ) → StartsAt m timestamp →
      entries_before m timestamp clock ≡ at_clock new_machine clock
  pub account :
      All
      (λ a.
      entries_before m (a.timestamp + 1) clock
      ≡ with_account (entries_before m a.timestamp clock) a)
      m.accounts
  pub transfer :
      All
      (λ t.
      entries_before m (t.timestamp + 1) clock
      ≡ with_transfer (entries_before m t.timestamp clock) t)
      m.transfers
  pub between :
      (from to : ℕ) → HasNoneBetween m from to →
      entries_before m to clock ≡ entries_before m from clock
  pub last :
      (timestamp : ℕ) → EndsBefore m timestamp →
      entries_before m timestamp clock ≡ record m { clock = clock; failed = [] }

-- so it is where timestamps are apart
abbrev pub EntriesComeInTurn : Type 0
EntriesComeInTurn = (m : Machine) (clock : ℕ) → AreTimestampsApart m → ComeInTurn m clock
