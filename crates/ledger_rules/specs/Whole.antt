-- What a ledger's file owes its schema, part by part.
use Rattle.std.specs.Prelude.{◌≡◌, true}
use Rattle.std.specs.List.{AllByRecursion}
use Rattle.sqlite_trees.specs.Objects.{catalog_tree}
use Rattle.sqlite_trees.specs.Tree.{Trees}
use Rattle.sqlite_sql.specs.Catalog.{IsIndexOf}
use Rattle.sqlite_schema.specs.declared.schema.Among.TheVariants.{All}
use Rattle.sqlite_schema.specs.declared.schema.Table.{Table}
use Rattle.sqlite_rules.specs.Keys.{are_unique, have_parents}
use Rattle.sqlite_catalog.specs.Listing.{IsSound, Lists}
use Rattle.ledger_sql.specs.Schema.{ledger_schema}
use Rattle.ledger_rules.specs.Rows.{AreLedgerRows}

-- no two rows of the table have one unique key, and each row's tenant is in the directory
pub record HasOwnKeys (trees : Trees) (table : Table) : Type 0 where
  pub unique : are_unique ledger_schema.indexes trees table (trees table.tree) ≡ true
  pub referred :
      have_parents All ledger_schema.tables trees table.references (trees table.tree) ≡ true

-- so it is of each of a ledger's tables
abbrev pub KeysAreOwn : Trees → Type 0
KeysAreOwn trees = AllByRecursion (HasOwnKeys trees) ledger_schema.tables

-- what may be committed: where the rows are a ledger's, their keys are their own
abbrev pub IsWhole : Trees → Type 0
IsWhole trees = AreLedgerRows trees → KeysAreOwn trees

-- each key has one entry for each row of its table
abbrev pub HaveEntries : Trees → Type 0
HaveEntries trees =
    AllByRecursion (λ i. IsIndexOf i.columns (trees i.table) (trees i.tree)) ledger_schema.indexes

-- the rows, the keys, the entries and the list of objects of a ledger's file
pub record IsLedgerFile (trees : Trees) : Type 0 where
  pub rows : AreLedgerRows trees
  pub keys : KeysAreOwn trees
  pub entries : HaveEntries trees
  pub objects : Lists (trees catalog_tree) ledger_schema

-- trees that are sound under a ledger's schema have all of these
abbrev pub SoundTreesAreWhole : Type 0
SoundTreesAreWhole = (trees : Trees) → IsSound ledger_schema trees → IsLedgerFile trees

-- and those that have all of these are sound
abbrev pub WholeTreesAreSound : Type 0
WholeTreesAreSound = (trees : Trees) → IsLedgerFile trees → IsSound ledger_schema trees
