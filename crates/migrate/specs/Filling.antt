-- The tables that newer versions have more, made and filled.
use Rattle.std.specs.Prelude.{◌≡◌, ℕ, ◌<◌, ◌≤◌, pos, true, [], ◌∷◌, IsTrue}
use Rattle.std.specs.List.{AllByRecursion}
use Rattle.sqlite_schema.specs.declared.schema.Schema.{Schema}
use Rattle.sqlite_value.specs.Order.{Row}
use Rattle.sqlite_trees.specs.Tree.{Trees}
use Rattle.sqlite.specs.Effect.{IsDatabase}
use Rattle.sqlite.specs.State.{State, Shows}
use Rattle.ledger_sql.specs.Creating.{IsMaking}
use Rattle.ledger_sql.specs.Effects.{WritesInside}
use Rattle.ledger_sql.specs.Rowids.{IsNumbered}
use Rattle.ledger_sql.specs.Schema.{balance_schema, ledger_schema, current_version}
use Rattle.ledger_sql.specs.Schema.{schema_tree, tenant_tree, clock_tree, account_tree}
use Rattle.ledger_sql.specs.Schema.{transfer_tree, balance_tree, status_tree, history_tree}
use Rattle.ledger_sql.specs.Schema.{failed_tree}
use Rattle.ledger_sql.specs.TableRows.{version_rows}
use Rattle.openings.specs.Damage.{NamesVersion}
use Rattle.openings.specs.Found.{HasOrderedTables}

-- the file names one version
pub record HasOneVersion (trees : Trees) : Type 0 where
  pub row : Row
  pub only : version_rows trees ≡ row ∷ []
  pub numbered : IsNumbered (trees schema_tree)

-- in the tables of balances, states and history the rowids rise
pub record AreDerivedNumbered (trees : Trees) : Type 0 where
  pub balances : IsNumbered (trees balance_tree)
  pub statuses : IsNumbered (trees status_tree)
  pub history : IsNumbered (trees history_tree)

-- in a transaction on an open database of this schema
pub record IsAltering (schema : Schema) (s : State) : Type 0 where
  pub making : IsMaking schema s
  pub is_open : IsTrue s.is_open

-- the version can be set: the tables of balances are there in a transaction, one version is named,
-- and in each table the rowids rise
pub record CanSetVersion (s : State) : Type 0 where
  pub altering : IsAltering balance_schema s
  pub version : HasOneVersion s.now.trees
  pub numbered : HasOrderedTables s.now

-- the directory and the tables that every version has are as before, but for the version
pub record KeepsEntries (old new : Trees) : Type 0 where
  pub directory : new tenant_tree ≡ old tenant_tree
  pub clocks : new clock_tree ≡ old clock_tree
  pub accounts : new account_tree ≡ old account_tree
  pub transfers : new transfer_tree ≡ old transfer_tree

-- rows were put into the tables of balances, states and history, and into no other
pub record FillsDerived (old new : State) : Type 0 where
  pub numbered : AreDerivedNumbered old.now.trees → AreDerivedNumbered new.now.trees
  pub version : new.now.trees schema_tree ≡ old.now.trees schema_tree
  pub entries : KeepsEntries old.now.trees new.now.trees
  pub inside : WritesInside old new

-- the tables of balances, states and history were made and filled
pub record MakesDerived (old new : State) : Type 0 where
  pub numbered : AreDerivedNumbered new.now.trees
  pub schema : new.now.schema ≡ balance_schema
  pub version : new.now.trees schema_tree ≡ old.now.trees schema_tree
  pub entries : KeepsEntries old.now.trees new.now.trees
  pub shown : Shows old new new.now old.committed true
  pub marks : new.marks ≡ old.marks

-- the version is that of the balance schema
pub record MakesBalanced (old new : State) : Type 0 where
  pub schema : new.now.schema ≡ balance_schema
  pub version : NamesVersion (pos 2) new.now.trees
  pub numbered : AllByRecursion (λ t. IsNumbered (new.now.trees t.tree)) balance_schema.tables
  pub entries : KeepsEntries old.now.trees new.now.trees
  pub shown : Shows old new new.now old.committed true
  pub marks : new.marks ≡ old.marks

-- the table of failed ids was made, with none in it, and the version is the current one
pub record MakesCurrent (old new : State) : Type 0 where
  pub schema : new.now.schema ≡ ledger_schema
  pub sound : IsDatabase new.now
  pub version : NamesVersion current_version new.now.trees
  pub numbered : AllByRecursion (λ t. IsNumbered (new.now.trees t.tree)) ledger_schema.tables
  pub failed : new.now.trees failed_tree ≡ []
  pub entries : KeepsEntries old.now.trees new.now.trees
  pub shown : Shows old new new.now old.committed true
  pub marks : new.marks ≡ old.marks

-- the version is the one that was asked for, with the table of failed ids where it has that
pub record MakesVersion (to : ℕ) (old new : State) : Type 0 where
  pub current : 3 ≤ to → MakesCurrent old new
  pub balanced : to < 3 → MakesBalanced old new
