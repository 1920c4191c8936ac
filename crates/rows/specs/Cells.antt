-- The cells in which a file keeps a row: blobs of 16 and 8 bytes, and whole numbers of 64 bits
-- with sign.
use Rattle.std.specs.Prelude.{ℕ, pos, List}
use Rattle.std.specs.Int.{w64, to_be_bytes}
use Rattle.amount.specs.Column.{column_of}
use Rattle.records.specs.declared.account.Account.{Account}
use Rattle.records.specs.declared.transfer.Transfer.{Transfer}
use Rattle.rows.specs.declared.balance_row.BalanceRow.{BalanceRow}
use Rattle.rows.specs.declared.status_row.StatusRow.{StatusRow}
use Rattle.rows.specs.declared.history_row.HistoryRow.{HistoryRow}
use Rattle.rows.specs.declared.account_cells.AccountCells.{AccountCells}
use Rattle.rows.specs.declared.transfer_cells.TransferCells.{TransferCells}
use Rattle.rows.specs.declared.balance_cells.BalanceCells.{BalanceCells}
use Rattle.rows.specs.declared.status_cells.StatusCells.{StatusCells}
use Rattle.rows.specs.declared.history_cells.HistoryCells.{HistoryCells}
use Rattle.rows.specs.StatusNumbers.{state_number, due_number}

-- a number of 64 bits as eight bytes, the greatest digit to base 256 first
unfoldable pub short_column_of : ℕ → List ℕ
short_column_of n = to_be_bytes w64 n

-- an account as a file has it
abbrev pub account_cells : Account → AccountCells
account_cells a = record {
  id = column_of a.id;
  user_data_128 = column_of a.user_data_128;
  user_data_64 = short_column_of a.user_data_64;
  user_data_32 = pos a.user_data_32;
  ledger = pos a.ledger;
  code = pos a.code;
  flags = pos a.flags.0;
  timestamp = pos a.timestamp;
}

-- a transfer
abbrev pub transfer_cells : Transfer → TransferCells
transfer_cells t = record {
  id = column_of t.id;
  debit = column_of t.debit_account_id;
  credit = column_of t.credit_account_id;
  amount = column_of t.amount;
  pending_id = column_of t.pending_id;
  user_data_128 = column_of t.user_data_128;
  user_data_64 = short_column_of t.user_data_64;
  user_data_32 = pos t.user_data_32;
  timeout = pos t.timeout;
  ledger = pos t.ledger;
  code = pos t.code;
  flags = pos t.flags.0;
  timestamp = pos t.timestamp;
  at_clock = pos t.at;
}

-- an account's balances
abbrev pub balance_cells : BalanceRow → BalanceCells
balance_cells row = record {
  account = column_of row.account;
  dp = column_of row.balances.debits.pending;
  dd = column_of row.balances.debits.posted;
  cp = column_of row.balances.credits.pending;
  cc = column_of row.balances.credits.posted;
}

-- the state of a pending transfer, and when it is due
abbrev pub status_cells : StatusRow → StatusCells
status_cells row = record {
  transfer = column_of row.transfer;
  state = state_number row.state;
  due = due_number row.due;
}

-- an account's balances after an entry
abbrev pub history_cells : HistoryRow → HistoryCells
history_cells row = record {
  account = column_of row.account;
  timestamp = pos row.timestamp;
  dp = column_of row.balances.debits.pending;
  dd = column_of row.balances.debits.posted;
  cp = column_of row.balances.credits.pending;
  cc = column_of row.balances.credits.posted;
}
