-- Rows of a table, by a key or in a range of one. A row is its rowid and then its columns.
use Rattle.std.specs.Prelude.{◌≡◌, ℕ, ℤ, Bool, true, false, not, ◌&&◌, List, [], ◌∷◌, drop, filter, map}
use Rattle.std.specs.Prelude.{take, Option, Some, None, Result, Ok, IsPermutation, IsSorted}
use Rattle.std.specs.declared.cmp.Ordering.{Ordering}
use Rattle.std.specs.Ordering.{is_eq}
use Rattle.sqlite_value.specs.Order.{Row}
use Rattle.sqlite_value.specs.declared.value.Value.TheVariants.{Int}
use Rattle.sqlite_value.specs.Keys.{entry_cmp, prefix_cmp}
use Rattle.sqlite_trees.specs.Tree.{has_rowid}
use Rattle.sqlite_trees.specs.declared.store.Direction.{Direction}
use Rattle.sqlite_trees.specs.declared.store.Direction.TheVariants.{Forward, Backward}
use Rattle.sqlite_sql.specs.Catalog.{entry_of}
use Rattle.sqlite_exec.specs.Plan.{is_past}
use Rattle.keyed_trees.specs.Layout.{KeyShape}

abbrev pub columns_of : Row → Row
columns_of row = drop 1 row

-- the row of a record at its rowid
abbrev pub row_of : {R : Type 0} → (R → Row) → (ℤ × R) → Row
row_of cells it = Int it.0 ∷ cells it.1

-- the row has this key: its entry begins with it
abbrev pub has_key : KeyShape → Row → Row → Bool
has_key k key row = is_eq (prefix_cmp k.order (entry_of k.columns row) key)

-- this row is one of those that pass the test, or none passes
abbrev pub FindsRow : (Row → Bool) → List Row → Row → Bool → Type 0
FindsRow test rows row true = (rest : List Row) × IsPermutation (filter test rows) (row ∷ rest)
FindsRow test rows row false = filter test rows ≡ []

-- what was found is one of the rows that pass the test, or none passes
abbrev pub Finds : {R : Type 0} → (R → Row) → (Row → Bool) → List Row → Option (ℤ × R) → Type 0
Finds cells test rows None = filter test rows ≡ []
Finds cells test rows (Some it) = FindsRow test rows (row_of cells it) true

-- what was found is the one row at the rowid, or none is there
abbrev pub FindsAt : {R : Type 0} → (R → Row) → ℤ → List Row → Option (ℤ × R) → Type 0
FindsAt cells id rows None = filter (has_rowid id) rows ≡ []
FindsAt cells id rows (Some it) = filter (has_rowid id) rows ≡ row_of cells it ∷ []

-- what was found is read from its row
abbrev pub IsReadOf : {R E : Type 0} → (R → Row) → Result Bool E → Row → Option (ℤ × R) → Type 0
IsReadOf cells found row None = found ≡ Ok false
IsReadOf cells found row (Some it) = (found ≡ Ok true) × (row ≡ row_of cells it)

abbrev pub is_backward : Direction → Bool
is_backward Forward = false
is_backward Backward = true

-- the row's entry is within a range: a walk of this direction has come to where it starts, and has
-- not passed where it stops; both ends are inclusive
abbrev pub is_in_range : KeyShape → Direction → Row → Row → Row → Bool
is_in_range k direction start stop row =
    not (is_past k.order (not (is_backward direction)) start (entry_of k.columns row))
    && not (is_past k.order (is_backward direction) stop (entry_of k.columns row))

-- how two rows stand to one another in a walk along a key
abbrev pub walk_cmp : KeyShape → Direction → Row → Row → Ordering
walk_cmp k Forward a b = entry_cmp k.order (entry_of k.columns a) (entry_of k.columns b)
walk_cmp k Backward a b = entry_cmp k.order (entry_of k.columns b) (entry_of k.columns a)

-- the first rows of a range were read, in the order of a walk, at most `most` of them
pub record ReadsRange {R : Type 0} (cells : R → Row) (k : KeyShape) (direction : Direction)
    (start stop : Row) (most : ℕ) (rows : List Row) (read : List (ℤ × R)) : Type 0 where
  pub ordered : List Row
  pub all : IsPermutation (filter (is_in_range k direction start stop) rows) ordered
  pub order : IsSorted (walk_cmp k direction) ordered
  pub read_is : map (row_of cells) read ≡ take most ordered

-- all rows of a range were read, in the order of a walk
pub record ReadsAll {R : Type 0} (cells : R → Row) (k : KeyShape) (direction : Direction)
    (start stop : Row) (rows : List Row) (read : List (ℤ × R)) : Type 0 where
  pub all : IsPermutation (filter (is_in_range k direction start stop) rows)
      (map (row_of cells) read)
  pub order : IsSorted (walk_cmp k direction) (map (row_of cells) read)
