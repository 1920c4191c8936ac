-- Which rows a database has of a tenant.
use Rattle.std.specs.Prelude.{◌≡◌, ℤ, pos, List, [], ◌∷◌, map, IsPermutation}
use Rattle.amount.specs.Column.{column_of}
use Rattle.records.specs.Machine.{Machine}
use Rattle.records.specs.Valid.{IsValid}
use Rattle.rows.specs.TypedRows.{TypedRows}
use Rattle.rows.specs.Prescribed.{rows_for}
use Rattle.rows.specs.Cells.{account_cells, transfer_cells}
use Rattle.rows.specs.Cells.{balance_cells, status_cells, history_cells}
use Rattle.sqlite_value.specs.Order.{Row}
use Rattle.sqlite_trees.specs.Tree.{Trees}
use Rattle.ledger_sql.specs.Values.{clock_values, account_values, transfer_values, balance_values}
use Rattle.ledger_sql.specs.Values.{status_values, history_values, id_values}
use Rattle.ledger_sql.specs.TableRows.{clock_rows, account_rows, transfer_rows, balance_rows}
use Rattle.ledger_sql.specs.TableRows.{status_rows, history_rows, failed_rows}

-- a table has exactly these rows of a tenant, in any order
abbrev pub HasRows : {R : Type 0} → (R → Row) → List R → List Row → Type 0
HasRows values typed rows = IsPermutation (map values typed) rows

-- the database has exactly these rows of the tenant
pub record HoldsRows (tenant : ℤ) (rows : TypedRows) (trees : Trees) : Type 0 where
  pub clock : clock_rows tenant trees ≡ clock_values (pos rows.clock) ∷ []
  pub accounts :
      HasRows (λ a. account_values (account_cells a)) rows.accounts (account_rows tenant trees)
  pub transfers :
      HasRows (λ t. transfer_values (transfer_cells t)) rows.transfers (transfer_rows tenant trees)
  pub balances :
      HasRows (λ row. balance_values (balance_cells row)) rows.balances (balance_rows tenant trees)
  pub statuses :
      HasRows (λ row. status_values (status_cells row)) rows.statuses (status_rows tenant trees)
  pub history :
      HasRows (λ row. history_values (history_cells row)) rows.history (history_rows tenant trees)
  pub failed : HasRows (λ id. id_values (column_of id)) rows.failed (failed_rows tenant trees)

-- these are the rows that a valid machine prescribes in the current schema
pub record HoldsMachine (tenant : ℤ) (m : Machine) (trees : Trees) : Type 0 where
  pub valid : IsValid m
  pub rows : HoldsRows tenant (rows_for 3 m) trees
