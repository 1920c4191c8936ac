-- What making a table does.
use Rattle.std.specs.Prelude.{◌≡◌, ℕ, true, List, [], ◌∷◌, IsTrue}
use Rattle.std.specs.List.{AllByRecursion}
use Rattle.sqlite_trees.specs.Tree.{Trees}
use Rattle.sqlite_schema.specs.declared.schema.Schema.{Schema}
use Rattle.sqlite_schema.specs.declared.schema.Table.{Table}
use Rattle.sqlite_catalog.specs.Change.{created, next_tree, KeepsRows}
use Rattle.sqlite.specs.State.{State, Shows}
use Rattle.ledger_sql.specs.Rowids.{IsNumbered}
use Rattle.ledger_sql.specs.Schema.{ledger_schema, current_version, schema_tree, tenant_tree}
use Rattle.ledger_sql.specs.Schema.{clock_tree, account_tree, transfer_tree, balance_tree}
use Rattle.ledger_sql.specs.Schema.{status_tree, history_tree, failed_tree}
use Rattle.ledger_sql.specs.TableRows.{version_rows}
use Rattle.ledger_sql.specs.Values.{version_values}

-- in a transaction, over this schema
pub record IsMaking (schema : Schema) (s : State) : Type 0 where
  pub schema_is : s.now.schema ≡ schema
  pub mode : IsTrue s.in_transaction

-- the table is there, with no row, and all others keep their rows
pub record Makes (was : Schema) (table : Table) (old new : State) : Type 0 where
  pub schema : new.now.schema ≡ created was table
  pub empty : new.now.trees (next_tree was) ≡ []
  pub others : KeepsRows was.tables old.now.trees new.now.trees
  pub shown : Shows old new new.now old.committed true
  pub marks : new.marks ≡ old.marks

-- these tables are there, with no row, and those that were there before keep their rows
pub record MakesTables (was now : Schema) (made : List Table) (old new : State) : Type 0 where
  pub schema : new.now.schema ≡ now
  pub empty : AllByRecursion (λ t. new.now.trees t.tree ≡ []) made
  pub others : KeepsRows was.tables old.now.trees new.now.trees
  pub shown : Shows old new new.now old.committed true
  pub marks : new.marks ≡ old.marks

-- the trees of all tables but that of the version
abbrev pub ledger_trees : List ℕ
ledger_trees =
    tenant_tree ∷ clock_tree ∷ account_tree ∷ transfer_tree ∷ balance_tree ∷ status_tree
    ∷ history_tree ∷ failed_tree ∷ []

-- the current version, and no other row
pub record IsEmptyLedger (db : Trees) : Type 0 where
  pub version : version_rows db ≡ version_values current_version ∷ []
  pub numbered : IsNumbered (db schema_tree)
  pub empty : AllByRecursion (λ tree. db tree ≡ []) ledger_trees

-- the whole empty ledger is there, in the transaction
pub record MakesLedger (old new : State) : Type 0 where
  pub schema : new.now.schema ≡ ledger_schema
  pub empty : IsEmptyLedger new.now.trees
  pub shown : Shows old new new.now old.committed true
  pub marks : new.marks ≡ old.marks
