-- A valid machine, as its finished lists tell it: each entry beside the entries before it.
use Rattle.std.specs.Prelude.{◌≡◌, ◌≢◌, ℕ, ◌+◌, ◌<◌, ◌≤◌, nat_lt, [], All, AllPairs, filter, None}
use Rattle.records.specs.declared.account.Account.{Account}
use Rattle.records.specs.declared.transfer.Transfer.{Transfer}
use Rattle.records.specs.Machine.{Machine}
use Rattle.records.specs.Facts.{facts_of}
use Rattle.records.specs.StoredRecord.{stored_transfer}
use Rattle.records.specs.Step.{account_verdict_in, transfer_verdict_in, max_clock}
use Rattle.records.specs.Widths.{IsAccountInWidth, IsTransferInWidth}
use Rattle.records.specs.Valid.{event_of_account, event_of_transfer, IsNextFailed}

-- the machine of the entries with earlier timestamps, at this clock; nothing tells when an id
-- failed, so none has
abbrev pub entries_before : Machine → ℕ → ℕ → Machine
entries_before m timestamp clock = record {
  accounts = filter (λ a. nat_lt a.timestamp timestamp) m.accounts;
  transfers = filter (λ t. nat_lt t.timestamp timestamp) m.transfers;
  clock = clock;
  failed = [];
}

-- the fields of all entries are within their widths
pub record AreFieldsInWidth (m : Machine) : Type 0 where
  pub accounts : All IsAccountInWidth m.accounts
  pub transfers : All IsTransferInWidth m.transfers

-- timestamps are above 0, rise along each list, and no account has that of a transfer
pub record AreTimestampsApart (m : Machine) : Type 0 where
  pub positive_accounts : All (λ a. 0 < a.timestamp) m.accounts
  pub positive_transfers : All (λ t. 0 < t.timestamp) m.transfers
  pub accounts_rise : AllPairs (λ a later. a.timestamp < later.timestamp) m.accounts
  pub transfers_rise : AllPairs (λ t later. t.timestamp < later.timestamp) m.transfers
  pub apart : All (λ a. All (λ t. a.timestamp ≢ t.timestamp) m.transfers) m.accounts

-- each transfer is within its batch, and the clocks of batches never fall along the list
pub record AreBatchesInOrder (m : Machine) : Type 0 where
  pub from : All (λ t. t.timestamp ≤ t.at) m.transfers
  pub short : All (λ t. t.at < t.timestamp + 1000) m.transfers
  pub never_fall : AllPairs (λ t later. t.at ≤ later.at) m.transfers

-- the clock is past all that the lists tell, and not beyond the latest
pub record IsClockPast (m : Machine) : Type 0 where
  pub accounts : All (λ a. a.timestamp ≤ m.clock) m.accounts
  pub transfers : All (λ t. t.timestamp ≤ m.clock) m.transfers
  pub batches : All (λ t. t.at ≤ m.clock) m.transfers
  pub bounded : m.clock ≤ max_clock

-- failed ids ascend, so that each stands once, and are ids that a transfer may have and none has
pub record AreFailedApart (m : Machine) : Type 0 where
  pub ascend : AllPairs (λ id later. id < later) m.failed
  pub apart : All (IsNextFailed m) m.failed

-- an account that its own fields open beside the entries before it; accounts depend on no clock
pub record IsAccountGiven (m : Machine) (a : Account) : Type 0 where
  pub accepted :
      account_verdict_in (entries_before m a.timestamp a.timestamp) (event_of_account a) ≡ None

-- the transfer that the fields of this one give in a machine
abbrev pub transfer_given : Machine → Transfer → Transfer
transfer_given m t =
    stored_transfer (facts_of m (event_of_transfer t)) (event_of_transfer t) t.timestamp t.at

-- a transfer that its own fields give beside the entries before it, at the clock of its batch
pub record IsTransferGiven (m : Machine) (t : Transfer) : Type 0 where
  pub accepted :
      transfer_verdict_in (entries_before m t.timestamp t.at) (event_of_transfer t) ≡ None
  pub stored : transfer_given (entries_before m t.timestamp t.at) t ≡ t

-- valid entry by entry
pub record IsValidEntryByEntry (m : Machine) : Type 0 where
  pub widths : AreFieldsInWidth m
  pub timestamps : AreTimestampsApart m
  pub batches : AreBatchesInOrder m
  pub clock : IsClockPast m
  pub failed : AreFailedApart m
  pub accounts : All (IsAccountGiven m) m.accounts
  pub transfers : All (IsTransferGiven m) m.transfers
