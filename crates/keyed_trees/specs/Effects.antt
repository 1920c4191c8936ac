-- What a call that writes does to one table.
use Rattle.std.specs.Prelude.{◌≡◌, ◌≢◌, ℕ, ℤ, true, List, [], ◌∷◌, ◌++◌, filter, IsTrue}
use Rattle.std.specs.List.{AllByRecursion}
use Rattle.sqlite_value.specs.Order.{Row}
use Rattle.sqlite_value.specs.declared.value.Value.TheVariants.{Int}
use Rattle.sqlite_trees.specs.Tree.{Trees, rowid, has_rowid, put_row, without_rowid}
use Rattle.sqlite_rules.specs.Edit.{id_in, next_rowid}
use Rattle.sqlite.specs.State.{State, Shows}
use Rattle.keyed_trees.specs.Layout.{KeyShape}
use Rattle.keyed_trees.specs.Rows.{has_key}

-- a transaction was open and goes on, with the same schema and marks
pub record WritesInside (old new : State) : Type 0 where
  pub was : IsTrue old.in_transaction
  pub schema : new.now.schema ≡ old.now.schema
  pub shown : Shows old new new.now old.committed true
  pub marks : new.marks ≡ old.marks

-- each tree that is neither the table nor a key has what it had
abbrev pub OthersStay : List KeyShape → ℕ → Trees → Trees → Type 0
OthersStay keys table old new =
    (t : ℕ) → t ≢ table → AllByRecursion (λ k. k.tree ≢ t) keys → new t ≡ old t

-- the table has a row with these columns more, after all others
pub record AppendsTo (keys : List KeyShape) (table : ℕ) (columns : Row) (old new : State)
    : Type 0 where
  pub inside : WritesInside old new
  pub rows : new.now.trees table
      ≡ old.now.trees table ++ (Int (next_rowid (old.now.trees table)) ∷ columns) ∷ []
  pub others : OthersStay keys table old.now.trees new.now.trees

-- the table has this row, in place of the one that had its rowid
pub record PutsInto (keys : List KeyShape) (table : ℕ) (row : Row) (old new : State)
    : Type 0 where
  pub inside : WritesInside old new
  pub rows : new.now.trees table ≡ put_row row (old.now.trees table)
  pub others : OthersStay keys table old.now.trees new.now.trees

-- no row had this rowid, and the table has a row with these columns at it
pub record AddsAt (keys : List KeyShape) (table : ℕ) (id : ℤ) (columns : Row) (old new : State)
    : Type 0 where
  pub inside : WritesInside old new
  pub free : filter (has_rowid id) (old.now.trees table) ≡ []
  pub rows : new.now.trees table ≡ put_row (Int id ∷ columns) (old.now.trees table)
  pub others : OthersStay keys table old.now.trees new.now.trees

-- the table has no row with this rowid
pub record RemovesFrom (keys : List KeyShape) (table : ℕ) (id : ℤ) (old new : State)
    : Type 0 where
  pub inside : WritesInside old new
  pub rows : new.now.trees table ≡ without_rowid id (old.now.trees table)
  pub others : OthersStay keys table old.now.trees new.now.trees

-- where no row has the key, nothing has changed; where one has it, it has these columns now
pub record SetsByKey (keys : List KeyShape) (k : KeyShape) (key columns : Row) (old new : State)
    : Type 0 where
  pub inside : WritesInside old new
  pub none : filter (has_key k key) (old.now.trees k.table) ≡ [] → new.now ≡ old.now
  pub one : (row : Row) → filter (has_key k key) (old.now.trees k.table) ≡ row ∷ []
      → new.now.trees k.table
      ≡ put_row (Int (id_in (rowid row)) ∷ columns) (old.now.trees k.table)
  pub others : OthersStay keys k.table old.now.trees new.now.trees
