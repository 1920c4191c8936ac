-- The widths of the fields of records and events, in bits.
use Rattle.std.specs.Prelude.{◌<◌, ◌^◌}
use Rattle.records.specs.declared.account.Account.{Account}
use Rattle.records.specs.declared.account.AccountEvent.{AccountEvent}
use Rattle.records.specs.declared.transfer.Transfer.{Transfer}
use Rattle.records.specs.declared.transfer.TransferEvent.{TransferEvent}

-- each field of an account
pub record IsAccountInWidth (a : Account) : Type 0 where
  pub id : a.id < 2 ^ 128
  pub user_data_128 : a.user_data_128 < 2 ^ 128
  pub user_data_64 : a.user_data_64 < 2 ^ 64
  pub user_data_32 : a.user_data_32 < 2 ^ 32
  pub ledger : a.ledger < 2 ^ 32
  pub code : a.code < 2 ^ 16
  pub flags : a.flags.0 < 2 ^ 16
  pub timestamp : a.timestamp < 2 ^ 64

-- each field of a transfer
pub record IsTransferInWidth (t : Transfer) : Type 0 where
  pub id : t.id < 2 ^ 128
  pub debit_account_id : t.debit_account_id < 2 ^ 128
  pub credit_account_id : t.credit_account_id < 2 ^ 128
  pub amount : t.amount < 2 ^ 128
  pub pending_id : t.pending_id < 2 ^ 128
  pub user_data_128 : t.user_data_128 < 2 ^ 128
  pub user_data_64 : t.user_data_64 < 2 ^ 64
  pub user_data_32 : t.user_data_32 < 2 ^ 32
  pub timeout : t.timeout < 2 ^ 32
  pub ledger : t.ledger < 2 ^ 32
  pub code : t.code < 2 ^ 16
  pub flags : t.flags.0 < 2 ^ 16
  pub timestamp : t.timestamp < 2 ^ 64
  pub at : t.at < 2 ^ 64

-- each field of a request to open an account
pub record IsAccountEventInWidth (ev : AccountEvent) : Type 0 where
  pub id : ev.id < 2 ^ 128
  pub debits_pending : ev.debits_pending < 2 ^ 128
  pub debits_posted : ev.debits_posted < 2 ^ 128
  pub credits_pending : ev.credits_pending < 2 ^ 128
  pub credits_posted : ev.credits_posted < 2 ^ 128
  pub user_data_128 : ev.user_data_128 < 2 ^ 128
  pub user_data_64 : ev.user_data_64 < 2 ^ 64
  pub user_data_32 : ev.user_data_32 < 2 ^ 32
  pub ledger : ev.ledger < 2 ^ 32
  pub code : ev.code < 2 ^ 16
  pub flags : ev.flags.0 < 2 ^ 16
  pub timestamp : ev.timestamp < 2 ^ 64

-- each field of a request for a transfer
pub record IsTransferEventInWidth (ev : TransferEvent) : Type 0 where
  pub id : ev.id < 2 ^ 128
  pub debit_account_id : ev.debit_account_id < 2 ^ 128
  pub credit_account_id : ev.credit_account_id < 2 ^ 128
  pub amount : ev.amount < 2 ^ 128
  pub pending_id : ev.pending_id < 2 ^ 128
  pub user_data_128 : ev.user_data_128 < 2 ^ 128
  pub user_data_64 : ev.user_data_64 < 2 ^ 64
  pub user_data_32 : ev.user_data_32 < 2 ^ 32
  pub timeout : ev.timeout < 2 ^ 32
  pub ledger : ev.ledger < 2 ^ 32
  pub code : ev.code < 2 ^ 16
  pub flags : ev.flags.0 < 2 ^ 16
  pub timestamp : ev.timestamp < 2 ^ 64
