-- Rows that may stand in a ledger's tables.
use Rattle.std.specs.Prelude.{◌≡◌, true}
use Rattle.std.specs.List.{AllByRecursion}
use Rattle.sqlite_value.specs.Order.{Row}
use Rattle.sqlite_trees.specs.Tree.{Trees}
use Rattle.sqlite_schema.specs.Rules.{passes_checks}
use Rattle.sqlite_schema.specs.declared.schema.Table.{Table}
use Rattle.sqlite_rules.specs.Steps.{is_present, is_typed}
use Rattle.ledger_sql.specs.Schema.{ledger_schema}

-- by itself the row may be in the table: each column has its type, none that may not be NULL is
-- NULL, and no check is false
pub record FitsAlone (table : Table) (row : Row) : Type 0 where
  pub typed : is_typed table row ≡ true
  pub present : is_present table row ≡ true
  pub checked : passes_checks table row ≡ true

-- each row of each of a ledger's tables fits its table
abbrev pub AreLedgerRows : Trees → Type 0
AreLedgerRows trees =
    AllByRecursion (λ t. AllByRecursion (FitsAlone t) (trees t.tree)) ledger_schema.tables
