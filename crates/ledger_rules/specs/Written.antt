-- That a ledger's own rows, as they lie in its tables, fit their columns.
use Rattle.std.specs.Prelude.{◌≡◌, ℕ, ℤ, List, [], ◌∷◌, length}
use Rattle.records.specs.declared.account.Account.{Account}
use Rattle.records.specs.declared.transfer.Transfer.{Transfer}
use Rattle.amount.specs.Column.{column_of}
use Rattle.rows.specs.declared.balance_row.BalanceRow.{BalanceRow}
use Rattle.rows.specs.declared.status_row.StatusRow.{StatusRow}
use Rattle.rows.specs.declared.history_row.HistoryRow.{HistoryRow}
use Rattle.rows.specs.Cells.{account_cells, transfer_cells, balance_cells, status_cells, history_cells}
use Rattle.sqlite_value.specs.declared.value.Value.TheVariants.{Null, Int, Text, Blob}
use Rattle.ledger_sql.specs.Schema.{tenant_table, clock_table, account_table, transfer_table}
use Rattle.ledger_sql.specs.Schema.{balance_table, status_table, history_table, failed_table}
use Rattle.ledger_sql.specs.Values.{account_values, transfer_values, balance_values}
use Rattle.ledger_sql.specs.Values.{status_values, history_values, id_values}
use Rattle.ledger_rules.specs.Rows.{FitsAlone}

-- each kind of row at any rowid, under any tenant
pub record LedgerRowsFit : Type 0 where
  pub account : (id tenant : ℤ) (a : Account)
      → FitsAlone account_table (Int id ∷ Int tenant ∷ account_values (account_cells a))
  pub transfer : (id tenant : ℤ) (t : Transfer)
      → FitsAlone transfer_table (Int id ∷ Int tenant ∷ transfer_values (transfer_cells t))
  pub balance : (id tenant : ℤ) (b : BalanceRow)
      → FitsAlone balance_table (Int id ∷ Int tenant ∷ balance_values (balance_cells b))
  pub status : (id tenant : ℤ) (s : StatusRow)
      → FitsAlone status_table (Int id ∷ Int tenant ∷ status_values (status_cells s))
  pub history : (id tenant : ℤ) (h : HistoryRow)
      → FitsAlone history_table (Int id ∷ Int tenant ∷ history_values (history_cells h))
  pub failed : (id tenant : ℤ) (transfer : ℕ)
      → FitsAlone failed_table (Int id ∷ Int tenant ∷ id_values (column_of transfer))
  pub tenant : (number : ℤ) (name digest : List ℕ) → length digest ≡ 32
      → FitsAlone tenant_table (Int number ∷ Null ∷ Text name ∷ Blob digest ∷ [])
  pub clock : (tenant clock : ℤ) → FitsAlone clock_table (Int tenant ∷ Null ∷ Int clock ∷ [])
