-- A tenant's rows of each table.
use Rattle.std.specs.Prelude.{◌≡◌, ℕ, ◌<◌, ◌≤◌, ℤ, List, []}
use Rattle.std.specs.declared.cmp.Ordering.{Ordering}
use Rattle.rows.specs.TypedRows.{FileRows}
use Rattle.sqlite_schema.specs.declared.schema.Schema.{Schema}
use Rattle.sqlite_trees.specs.Tree.{Trees}
use Rattle.sqlite_value.specs.Order.{Row}
use Rattle.ledger_sql.specs.Effects.{StartsAs}
use Rattle.ledger_sql.specs.Reading.{ReadsRows, clock_cmp, account_cmp, transfer_cmp, balance_cmp}
use Rattle.ledger_sql.specs.Reading.{status_cmp, history_cmp, id_cmp}
use Rattle.ledger_sql.specs.Schema.{list_schema, balance_schema, ledger_schema}
use Rattle.ledger_sql.specs.TableRows.{clock_rows, account_rows, transfer_rows, balance_rows}
use Rattle.ledger_sql.specs.TableRows.{status_rows, history_rows, failed_rows}
use Rattle.ledger_sql.specs.Values.{clock_values, account_values, transfer_values}
use Rattle.ledger_sql.specs.Values.{balance_values, status_values, history_values, id_values}

-- the tables of this version come first
pub record HasTables (version : ℕ) (schema : Schema) : Type 0 where
  pub lists : StartsAs list_schema.tables schema
  pub derived : 2 ≤ version → StartsAs balance_schema.tables schema
  pub failed : 3 ≤ version → StartsAs ledger_schema.tables schema

-- these rows were read, where this version has their table; else there is none
pub record ReadsSince {R : Type 0} (first version : ℕ) (values : R → Row) (cmp : R → R → Ordering)
    (table : List Row) (read : List R) : Type 0 where
  pub there : first ≤ version → ReadsRows values cmp table read
  pub none : version < first → read ≡ []

-- a tenant's rows of each table of this version, all of them in order of key
pub record AreTenantRows (version : ℕ) (number : ℤ) (trees : Trees) (rows : FileRows)
    : Type 0 where
  pub clocks : ReadsRows clock_values clock_cmp (clock_rows number trees) rows.clocks
  pub accounts : ReadsRows account_values account_cmp (account_rows number trees) rows.accounts
  pub transfers :
      ReadsRows transfer_values transfer_cmp (transfer_rows number trees) rows.transfers
  pub balances :
      ReadsSince 2 version balance_values balance_cmp (balance_rows number trees) rows.balances
  pub statuses :
      ReadsSince 2 version status_values status_cmp (status_rows number trees) rows.statuses
  pub history :
      ReadsSince 2 version history_values history_cmp (history_rows number trees) rows.history
  pub failed : ReadsSince 3 version id_values id_cmp (failed_rows number trees) rows.failed
