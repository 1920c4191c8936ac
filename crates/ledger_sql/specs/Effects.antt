-- What a statement reads or changes.
use Rattle.std.specs.Prelude.{◌≡◌, ◌≢◌, ◌==◌, ℕ, ℤ, true, not, Bool, ◌&&◌, IsTrue}
use Rattle.std.specs.Prelude.{List, [], ◌∷◌, ◌++◌, filter, Option, Some, None}
use Rattle.std.specs.List.{AllByRecursion, list_any, list_all}
use Rattle.std.specs.List.Sorted.{IsPermutation}
use Rattle.sqlite_value.specs.Order.{Row, column}
use Rattle.sqlite_trees.specs.Tree.{Trees}
use Rattle.sqlite_schema.specs.Names.{same_name}
use Rattle.sqlite_schema.specs.declared.schema.Table.{Table}
use Rattle.sqlite_schema.specs.declared.schema.Schema.{Schema}
use Rattle.sqlite.specs.Effect.{IsDatabase}
use Rattle.sqlite.specs.State.{State, Shows}
use Rattle.ledger_sql.specs.Rowids.{IsNumbered}
use Rattle.ledger_sql.specs.Schema.{ledger_schema, schema_tree, tenant_tree}
use Rattle.ledger_sql.specs.TableRows.{version_rows, directory_rows, is_int}
use Rattle.ledger_sql.specs.Values.{version_values, directory_values}

-- our tables come first in the file, and more behind them
abbrev pub StartsAs : List Table → Schema → Type 0
StartsAs ours s = (more : List Table) × (s.tables ≡ ours ++ more)

-- a table of a stranger has a tree of its own, and refers to none of our tables
abbrev pub is_stranger : Table → Bool
is_stranger t =
    not (list_any (λ ours. ours.tree == t.tree) ledger_schema.tables)
    && list_all (λ ref.
    not (list_any (λ ours. same_name ours.name ref.parent) ledger_schema.tables)) t.references

-- the tables of the current schema, and behind them none but strangers'
pub record IsLedger (s : Schema) : Type 0 where
  pub more : List Table
  pub tables : s.tables ≡ ledger_schema.tables ++ more
  pub strangers : list_all is_stranger more ≡ true

-- in a transaction, over the current schema
pub record IsInside (s : State) : Type 0 where
  pub schema : IsLedger s.now.schema
  pub mode : IsTrue s.in_transaction

-- the row is the one of the list, or the list has none
abbrev pub Picks : List Row → Option Row → Type 0
Picks rows None = rows ≡ []
Picks rows (Some row) = (rest : List Row) × IsPermutation rows (row ∷ rest)

-- all other tables keep their rows
abbrev pub OthersStay : ℕ → State → State → Type 0
OthersStay tree old new =
    AllByRecursion (λ t. t.tree ≢ tree → new.now.trees t.tree ≡ old.now.trees t.tree)
    old.now.schema.tables

-- the transaction goes on, with the same schema and marks
pub record WritesInside (old new : State) : Type 0 where
  pub schema : new.now.schema ≡ old.now.schema
  pub shown : Shows old new new.now old.committed true
  pub marks : new.marks ≡ old.marks

-- one tenant has these rows more in one table
pub record AddsRows (rows : ℤ → Trees → List Row) (tree : ℕ) (tenant : ℤ) (added : List Row)
    (old new : State) : Type 0 where
  pub own : IsPermutation (added ++ rows tenant old.now.trees) (rows tenant new.now.trees)
  pub others : (other : ℤ) → other ≢ tenant → rows other new.now.trees ≡ rows other old.now.trees
  pub tables : OthersStay tree old new
  pub inside : WritesInside old new
  pub numbered : IsNumbered (old.now.trees tree) → IsNumbered (new.now.trees tree)

-- a table that is no tenant's has this row more
pub record AddsFileRow (rows : Trees → List Row) (tree : ℕ) (added : Row) (old new : State)
    : Type 0 where
  pub all : IsPermutation (added ∷ rows old.now.trees) (rows new.now.trees)
  pub tables : OthersStay tree old new
  pub inside : WritesInside old new
  pub numbered : IsNumbered (old.now.trees tree) → IsNumbered (new.now.trees tree)

-- in one tenant's rows of one table, the one that passes the test is replaced
pub record SetsRow (rows : ℤ → Trees → List Row) (tree : ℕ) (tenant : ℤ) (test : Row → Bool)
    (row : Row) (old new : State) : Type 0 where
  pub own : IsPermutation (row ∷ filter (λ r. not (test r)) (rows tenant old.now.trees))
      (rows tenant new.now.trees)
  pub others : (other : ℤ) → other ≢ tenant → rows other new.now.trees ≡ rows other old.now.trees
  pub tables : OthersStay tree old new
  pub inside : WritesInside old new
  pub numbered : IsNumbered (new.now.trees tree)

-- the transaction goes on, and where one row passes the test, that row is replaced
pub record SetsOne (rows : ℤ → Trees → List Row) (tree : ℕ) (tenant : ℤ) (test : Row → Bool)
    (values : Row) (old new : State) : Type 0 where
  pub inside : WritesInside old new
  pub one : (row : Row) → filter test (rows tenant old.now.trees) ≡ row ∷ []
      → IsNumbered (old.now.trees tree) → SetsRow rows tree tenant test values old new

-- the tenant with this number and this name has this digest, and the rest of the directory and all
-- other tables keep their rows
pub record HasDigest (number : ℤ) (name digest : List ℕ) (old new : State) : Type 0 where
  pub directory : IsPermutation
      (directory_values number name digest
      ∷ filter (λ row. not (is_int number (column row 0))) (directory_rows old.now.trees))
      (directory_rows new.now.trees)
  pub tables : OthersStay tenant_tree old new
  pub numbered : IsNumbered (new.now.trees tenant_tree)

-- the transaction goes on, and where one tenant has this number, its digest is replaced
pub record SetsDigest (number : ℤ) (digest : List ℕ) (old new : State) : Type 0 where
  pub inside : WritesInside old new
  pub one : (name was : List ℕ)
      → filter (λ row. is_int number (column row 0)) (directory_rows old.now.trees)
      ≡ directory_values number name was ∷ []
      → IsNumbered (old.now.trees tenant_tree) → HasDigest number name digest old new

-- the file has this version, and all other tables keep their rows
pub record HasVersion (version : ℤ) (old new : State) : Type 0 where
  pub version_is : version_rows new.now.trees ≡ version_values version ∷ []
  pub tables : OthersStay schema_tree old new
  pub numbered : IsNumbered (new.now.trees schema_tree)

-- the transaction goes on, what it sees keeps every rule of its tables, and the one version of the
-- file is replaced
pub record SetsVersion (version : ℤ) (old new : State) : Type 0 where
  pub inside : WritesInside old new
  pub sound : IsDatabase new.now
  pub one : (was : Row) → version_rows old.now.trees ≡ was ∷ []
      → IsNumbered (old.now.trees schema_tree) → HasVersion version old new
