-- What the work of one tenant leaves as it was.
use Rattle.std.specs.Prelude.{◌≡◌, ◌≢◌, ℤ}
use Rattle.std.specs.List.{AllByRecursion}
use Rattle.sqlite_trees.specs.Tree.{Trees}
use Rattle.ledger_sql.specs.Rowids.{IsNumbered}
use Rattle.ledger_sql.specs.Schema.{ledger_schema, schema_tree, tenant_tree}
use Rattle.ledger_sql.specs.TableRows.{clock_rows, account_rows, transfer_rows, balance_rows}
use Rattle.ledger_sql.specs.TableRows.{status_rows, history_rows, failed_rows}

-- a tenant's rows are as before
pub record KeepsRows (tenant : ℤ) (old new : Trees) : Type 0 where
  pub clock : clock_rows tenant new ≡ clock_rows tenant old
  pub accounts : account_rows tenant new ≡ account_rows tenant old
  pub transfers : transfer_rows tenant new ≡ transfer_rows tenant old
  pub balances : balance_rows tenant new ≡ balance_rows tenant old
  pub statuses : status_rows tenant new ≡ status_rows tenant old
  pub history : history_rows tenant new ≡ history_rows tenant old
  pub failed : failed_rows tenant new ≡ failed_rows tenant old

-- so are the rows of every tenant but this one, the directory and the version of the schema
pub record KeepsOtherTenants (tenant : ℤ) (old new : Trees) : Type 0 where
  pub version : new schema_tree ≡ old schema_tree
  pub directory : new tenant_tree ≡ old tenant_tree
  pub others : (other : ℤ) → other ≢ tenant → KeepsRows other old new

-- in each table of ours the rowids are whole numbers, and they rise
abbrev pub AreNumbered : Trees → Type 0
AreNumbered trees = AllByRecursion (λ table. IsNumbered (trees table.tree)) ledger_schema.tables
