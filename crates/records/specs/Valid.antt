-- A valid machine: what accepted entries, one after the other, can lead to.
use Rattle.std.specs.Prelude.{◌≡◌, ℕ, ◌+◌, ◌<◌, ◌≤◌, All, [], ◌∷◌, ◌++◌, None}
use Rattle.records.specs.declared.account.Account.{Account}
use Rattle.records.specs.declared.account.AccountEvent.{AccountEvent}
use Rattle.records.specs.declared.transfer.Transfer.{Transfer}
use Rattle.records.specs.declared.transfer.TransferEvent.{TransferEvent}
use Rattle.records.specs.Machine.{Machine, new_machine, max_amount, transfer_with, with_failed}
use Rattle.records.specs.Facts.{facts_of}
use Rattle.records.specs.StoredRecord.{stored_transfer}
use Rattle.records.specs.Widths.{IsAccountInWidth, IsTransferInWidth}
use Rattle.records.specs.Step.{account_verdict_in, transfer_verdict_in, at_clock, max_clock}

-- the event that would be sent to open this very account
abbrev pub event_of_account : Account → AccountEvent
event_of_account a = record {
  id = a.id;
  debits_pending = 0;
  debits_posted = 0;
  credits_pending = 0;
  credits_posted = 0;
  user_data_128 = a.user_data_128;
  user_data_64 = a.user_data_64;
  user_data_32 = a.user_data_32;
  ledger = a.ledger;
  code = a.code;
  flags = a.flags;
  timestamp = 0;
}

-- the event that would be sent to make this very transfer
abbrev pub event_of_transfer : Transfer → TransferEvent
event_of_transfer t = record {
  id = t.id;
  debit_account_id = t.debit_account_id;
  credit_account_id = t.credit_account_id;
  amount = t.amount;
  pending_id = t.pending_id;
  user_data_128 = t.user_data_128;
  user_data_64 = t.user_data_64;
  user_data_32 = t.user_data_32;
  timeout = t.timeout;
  ledger = t.ledger;
  code = t.code;
  flags = t.flags;
  timestamp = 0;
}

-- a timestamp that the next entry may have: later than every earlier one, and within the last batch
-- of the clock
pub record IsNextTimestamp (m : Machine) (timestamp : ℕ) : Type 0 where
  pub positive : 0 < timestamp
  pub after_accounts : All (λ a. a.timestamp < timestamp) m.accounts
  pub after_transfers : All (λ t. t.timestamp < timestamp) m.transfers
  pub in_batch : m.clock < timestamp + 1000
  pub by_clock : timestamp ≤ m.clock

-- an account that the machine accepts as its next entry
pub record IsNextAccount (m : Machine) (a : Account) : Type 0 where
  pub widths : IsAccountInWidth a
  pub timestamp : IsNextTimestamp m a.timestamp
  pub accepted : account_verdict_in m (event_of_account a) ≡ None

-- a transfer that the machine accepts as its next entry, judged at its clock, and keeps as it is
pub record IsNextTransfer (m : Machine) (t : Transfer) : Type 0 where
  pub widths : IsTransferInWidth t
  pub timestamp : IsNextTimestamp m t.timestamp
  pub at : t.at ≡ m.clock
  pub accepted : transfer_verdict_in m (event_of_transfer t) ≡ None
  pub stored :
      stored_transfer (facts_of m (event_of_transfer t)) (event_of_transfer t) t.timestamp t.at ≡ t

-- an id that can fail for good: one that a transfer may have, and none has
pub record IsNextFailed (m : Machine) (id : ℕ) : Type 0 where
  pub positive : 0 < id
  pub below_max : id < max_amount
  pub unknown : transfer_with id m.transfers ≡ None

-- the machine with one account more
abbrev pub with_account : Machine → Account → Machine
with_account m a = record m { accounts = m.accounts ++ a ∷ [] }

-- the machine with one transfer more
abbrev pub with_transfer : Machine → Transfer → Machine
with_transfer m t = record m { transfers = m.transfers ++ t ∷ [] }

-- a machine that a new tenant comes to by accepted entries and failed ids, each in its turn, under
-- a clock that never turns back; an entry's id has not failed and an id that fails is no entry's,
-- so the failed ids might as well all come last
pub data IsValid : Machine → Type 0 where
  new_tenant : IsValid new_machine
  later :
      (m : Machine) (clock : ℕ) →
      IsValid m → m.clock ≤ clock → clock ≤ max_clock → IsValid (at_clock m clock)
  next_account :
      (m : Machine) (account : Account) →
      IsValid m → IsNextAccount m account → IsValid (with_account m account)
  next_transfer :
      (m : Machine) (entry : Transfer) →
      IsValid m → IsNextTransfer m entry → IsValid (with_transfer m entry)
  next_failed :
      (m : Machine) (id : ℕ) → IsValid m → IsNextFailed m id → IsValid (with_failed m id)
