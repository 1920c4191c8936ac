-- Pieces of an account's history, and what is left of it.
use Rattle.std.specs.Prelude.{◌≡◌, ◌-◌, ℕ, ℤ, Bool, true, false, List, [], ◌∷◌, ◌++◌, filter, length}
use Rattle.std.specs.Prelude.{slice_get, Some, IsPermutation, IsSorted}
use Rattle.sqlite_value.specs.Order.{Row}
use Rattle.sqlite_value.specs.declared.value.Value.TheVariants.{Blob, Int}
use Rattle.sqlite_trees.specs.declared.store.Direction.{Direction}
use Rattle.sqlite_sql.specs.Catalog.{entry_of}
use Rattle.keyed_trees.specs.Rows.{is_in_range, row_of, walk_cmp}
use Rattle.rows.specs.declared.history_cells.HistoryCells.{HistoryCells}
use Rattle.ledger_sql.specs.Values.{history_values}
use Rattle.ledger_layout.specs.Keys.{by_entry}
use Rattle.ledger_layout.specs.declared.kind.TenantRow.{TenantRow}
use Rattle.ledger_entries.specs.declared.history.Unread.{Unread}

-- the columns of a tenant's row of the history
abbrev pub history_columns : TenantRow HistoryCells → Row
history_columns row = Int row.tenant ∷ history_values row.cells

-- what the key of entries has of a row at its rowid
abbrev pub entry_at : ℤ × TenantRow HistoryCells → Row
entry_at it = entry_of by_entry.columns (row_of history_columns it)

-- all of an account's history from a time on, or backward from it, is still to be read
pub record IsUnreadOf (tenant : ℤ) (account : List ℕ) (time : ℤ) (direction : Direction)
    (it : Unread) : Type 0 where
  pub start : it.start ≡ Int tenant ∷ Blob account ∷ Int time ∷ []
  pub stop : it.stop ≡ Int tenant ∷ Blob account ∷ []
  pub way : it.direction ≡ direction

-- the rows of the history that are still to be read
abbrev pub left_in : Unread → List Row → List Row
left_in it history = filter (is_in_range by_entry it.direction it.start it.stop) history

-- the first of the rows that were left have been read, in the order of the walk, and the others
-- are left; the last piece leaves none
pub record ReadsPiece (old new : Unread) (history read : List Row) (is_last : Bool) : Type 0 where
  pub rest : List Row
  pub all : IsPermutation (left_in old history) (read ++ rest)
  pub order : IsSorted (walk_cmp by_entry old.direction) (read ++ rest)
  pub over : is_last ≡ true → rest ≡ []
  pub left : is_last ≡ false → IsPermutation (left_in new history) rest

-- the last of these rows has another time or another rowid than this one
abbrev pub EndsApart : List (ℤ × TenantRow HistoryCells) → ℤ × TenantRow HistoryCells → Type 0
EndsApart rows next =
    (last : ℤ × TenantRow HistoryCells) → slice_get rows (length rows - 1) ≡ Some last
    → last.0 ≡ next.0 → last.1.cells.timestamp ≡ next.1.cells.timestamp → ⊥
