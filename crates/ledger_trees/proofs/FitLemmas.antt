-- The rows that a ledger writes fit the trees of its tables.
use Rattle.std.proofs.Common.{◌≡◌, ℕ, ℤ, List, [], ◌∷◌, length, sym, subst}
use Rattle.sqlite_value.specs.Order.{Row}
use Rattle.sqlite_value.specs.declared.value.Value.TheVariants.{Int}
use Rattle.sqlite_schema.specs.declared.schema.Table.{Table}
use Rattle.amount.specs.Column.{column_of}
use Rattle.records.specs.declared.account.Account.{Account}
use Rattle.records.specs.declared.transfer.Transfer.{Transfer}
use Rattle.rows.specs.Cells.{account_cells, transfer_cells, balance_cells, status_cells, history_cells}
use Rattle.rows.specs.declared.account_cells.AccountCells.{AccountCells}
use Rattle.rows.specs.declared.transfer_cells.TransferCells.{TransferCells}
use Rattle.rows.specs.declared.balance_cells.BalanceCells.{BalanceCells}
use Rattle.rows.specs.declared.status_cells.StatusCells.{StatusCells}
use Rattle.rows.specs.declared.history_cells.HistoryCells.{HistoryCells}
use Rattle.rows.specs.declared.balance_row.BalanceRow.{BalanceRow}
use Rattle.rows.specs.declared.status_row.StatusRow.{StatusRow}
use Rattle.rows.specs.declared.history_row.HistoryRow.{HistoryRow}
use Rattle.ledger_rules.specs.Rows.{FitsAlone}
use Rattle.ledger_rules.specs.Written.{LedgerRowsFit}
use Rattle.ledger_sql.specs.Schema.{account_tree, account_table, balance_tree, balance_table, clock_tree, clock_table, failed_tree, failed_table, history_tree, history_table, status_tree, status_table, tenant_tree, tenant_table, transfer_tree, transfer_table}
use Rattle.ledger_sql.specs.Values.{account_values, balance_values, history_values, id_values, status_values, transfer_values}
use Rattle.ledger_layout.specs.FileRows.{clock_columns, tenant_columns}
use Rattle.ledger_layout.specs.Tables.{FitsAt}

-- where a table lies does not matter to its rows
moved : (t : Table) (tree : ℕ) (row : Row) → FitsAlone t row → FitsAlone (record t { tree = tree }) row
moved t tree row it = record { typed = it.typed; present = it.present; checked = it.checked }

module _ (law : LedgerRowsFit) where
  pub account_fits : (tenant : ℤ) (a : Account) (cells : AccountCells) → cells ≡ account_cells a → FitsAt account_tree (Int tenant ∷ account_values cells)
  account_fits tenant a cells is = subst (λ c. FitsAt account_tree (Int tenant ∷ account_values c)) (sym is) (λ id. moved account_table account_tree _ (law.account id tenant a))

  pub transfer_fits : (tenant : ℤ) (t : Transfer) (cells : TransferCells) → cells ≡ transfer_cells t → FitsAt transfer_tree (Int tenant ∷ transfer_values cells)
  transfer_fits tenant t cells is = subst (λ c. FitsAt transfer_tree (Int tenant ∷ transfer_values c)) (sym is) (λ id. moved transfer_table transfer_tree _ (law.transfer id tenant t))

  pub balance_fits : (tenant : ℤ) (b : BalanceRow) (cells : BalanceCells) → cells ≡ balance_cells b → FitsAt balance_tree (Int tenant ∷ balance_values cells)
  balance_fits tenant b cells is = subst (λ c. FitsAt balance_tree (Int tenant ∷ balance_values c)) (sym is) (λ id. moved balance_table balance_tree _ (law.balance id tenant b))

  pub status_fits : (tenant : ℤ) (s : StatusRow) (cells : StatusCells) → cells ≡ status_cells s → FitsAt status_tree (Int tenant ∷ status_values cells)
  status_fits tenant s cells is = subst (λ c. FitsAt status_tree (Int tenant ∷ status_values c)) (sym is) (λ id. moved status_table status_tree _ (law.status id tenant s))

  pub history_fits : (tenant : ℤ) (h : HistoryRow) (cells : HistoryCells) → cells ≡ history_cells h → FitsAt history_tree (Int tenant ∷ history_values cells)
  history_fits tenant h cells is = subst (λ c. FitsAt history_tree (Int tenant ∷ history_values c)) (sym is) (λ id. moved history_table history_tree _ (law.history id tenant h))

  pub failed_fits : (tenant : ℤ) (transfer : ℕ) (id : List ℕ) → id ≡ column_of transfer → FitsAt failed_tree (Int tenant ∷ id_values id)
  failed_fits tenant transfer id is = subst (λ c. FitsAt failed_tree (Int tenant ∷ id_values c)) (sym is) (λ rowid. moved failed_table failed_tree _ (law.failed rowid tenant transfer))

  pub tenant_fits : (name digest : List ℕ) → length digest ≡ 32 → FitsAt tenant_tree (tenant_columns name digest)
  tenant_fits name digest long id = moved tenant_table tenant_tree _ (law.tenant id name digest long)

  pub clock_fits : (clock : ℤ) → FitsAt clock_tree (clock_columns clock)
  clock_fits clock id = moved clock_table clock_tree _ (law.clock id clock)
