-- The record that an accepted event leaves.
use Rattle.std.specs.Prelude.{ℕ, ◌==◌, Option, Some, None, if◌then◌else◌}
use Rattle.records.specs.declared.account.Account.{Account}
use Rattle.records.specs.declared.account.AccountEvent.{AccountEvent}
use Rattle.records.specs.declared.transfer.Transfer.{Transfer}
use Rattle.records.specs.declared.transfer.TransferEvent.{TransferEvent}
use Rattle.records.specs.declared.facts.PendingTransfer.{PendingTransfer}
use Rattle.records.specs.declared.facts.TransferFacts.{TransferFacts}
use Rattle.records.specs.Flags.{is_post_or_void}
use Rattle.records.specs.ActualAmount.{actual_amount}

-- the account of an event, opened at this timestamp
abbrev pub stored_account : AccountEvent → ℕ → Account
stored_account ev timestamp = record {
  id = ev.id;
  user_data_128 = ev.user_data_128;
  user_data_64 = ev.user_data_64;
  user_data_32 = ev.user_data_32;
  ledger = ev.ledger;
  code = ev.code;
  flags = ev.flags;
  timestamp = timestamp;
}

-- what is given, or where it is 0 what the pending transfer has
abbrev pub given_or : ℕ → ℕ → ℕ
given_or inherited given = if given == 0 then inherited else given

-- what an event takes of a field: from a pending transfer what it left 0, else what is given
abbrev pub field_from : (Transfer → ℕ) → Option PendingTransfer → ℕ → ℕ
field_from field None given = given
field_from field (Some p) given = given_or (field p.transfer) given

-- the pending transfer that an event takes fields from: only a post or void does
abbrev pub source_of : TransferFacts → TransferEvent → Option PendingTransfer
source_of f ev = if is_post_or_void ev.flags then f.pending else None

-- the transfer of an event that meets these facts, accepted at this time in a batch with this clock
abbrev pub stored_transfer : TransferFacts → TransferEvent → ℕ → ℕ → Transfer
stored_transfer f ev timestamp clock =
    let p = source_of f ev in
    record {
      id = ev.id;
      debit_account_id = field_from (λ t. t.debit_account_id) p ev.debit_account_id;
      credit_account_id = field_from (λ t. t.credit_account_id) p ev.credit_account_id;
      amount = actual_amount f ev;
      pending_id = ev.pending_id;
      user_data_128 = field_from (λ t. t.user_data_128) p ev.user_data_128;
      user_data_64 = field_from (λ t. t.user_data_64) p ev.user_data_64;
      user_data_32 = field_from (λ t. t.user_data_32) p ev.user_data_32;
      timeout = ev.timeout;
      ledger = field_from (λ t. t.ledger) p ev.ledger;
      code = field_from (λ t. t.code) p ev.code;
      flags = ev.flags;
      timestamp = timestamp;
      at = clock;
    }
