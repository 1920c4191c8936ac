-- The rows that a machine prescribes, each list in order of entry.
use Rattle.std.specs.Prelude.{ℕ, nat_le, List, [], ◌∷◌, map, filter, if◌then◌else◌}
use Rattle.std.specs.List.{flat_map}
use Rattle.records.specs.declared.account.Account.{Account}
use Rattle.records.specs.declared.transfer.Transfer.{Transfer}
use Rattle.records.specs.Flags.{is_pending}
use Rattle.records.specs.Machine.{Machine}
use Rattle.records.specs.Due.{due_of}
use Rattle.records.specs.Fate.{fate_of}
use Rattle.records.specs.Balances.{balances_in}
use Rattle.records.specs.Reads.{Entry, entries_of, balance_after}
use Rattle.rows.specs.declared.balance_row.BalanceRow.{BalanceRow}
use Rattle.rows.specs.declared.status_row.StatusRow.{StatusRow}
use Rattle.rows.specs.declared.history_row.HistoryRow.{HistoryRow}
use Rattle.rows.specs.TypedRows.{TypedRows}

-- an account with its sums at the clock
abbrev pub balance_row : Machine → Account → BalanceRow
balance_row m account = record { account = account.id; balances = balances_in m account.id }

-- a pending transfer with its state at the clock and its due time
abbrev pub status_row : Machine → Transfer → StatusRow
status_row m transfer = record {
  transfer = transfer.id;
  state = fate_of m.transfers m.clock transfer;
  due = due_of transfer;
}

-- an account's balances after an entry
abbrev pub history_row : ℕ → Entry → HistoryRow
history_row account entry = record {
  account = account;
  timestamp = entry.transfer.timestamp;
  balances = balance_after account entry;
}

-- one row for each account
abbrev pub balance_rows : Machine → List BalanceRow
balance_rows m = map (balance_row m) m.accounts

-- one row for each pending transfer
abbrev pub status_rows : Machine → List StatusRow
status_rows m = map (status_row m) (filter (λ transfer. is_pending transfer.flags) m.transfers)

-- two rows for each transfer: of its debit account and of its credit account
abbrev pub history_rows : Machine → List HistoryRow
history_rows m =
    flat_map (λ entry.
    history_row entry.transfer.debit_account_id entry
    ∷ history_row entry.transfer.credit_account_id entry
    ∷ []) (entries_of m)

-- the rows of a table that came with this version of the schema
abbrev pub since : {A : Type 0} → ℕ → ℕ → List A → List A
since first version rows = if nat_le first version then rows else []

-- all rows in this version of the schema: in 1 the clock, accounts and transfers, from 2 on also
-- balances, states and history, and in 3, the current one, also failed ids
unfoldable pub rows_for : ℕ → Machine → TypedRows
rows_for version m = record {
  clock = m.clock;
  accounts = m.accounts;
  transfers = m.transfers;
  balances = since 2 version (balance_rows m);
  statuses = since 2 version (status_rows m);
  history = since 2 version (history_rows m);
  failed = since 3 version m.failed;
}
