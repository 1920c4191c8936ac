-- What a call leaves of a store.
use Rattle.std.specs.Prelude.{◌≡◌, ◌≢◌, ◌⊎◌, ℕ, ℤ, false, Bool, true, List, [], ◌∷◌, ◌++◌, filter}
use Rattle.std.specs.Prelude.{length, map, take}
use Rattle.std.specs.Prelude.{Contains, Option, Some, None, Result, OnOk, OnErr, IfErr}
use Rattle.std.specs.List.{AllByRecursion, flat_map}
use Rattle.std.specs.Ordering.{is_eq}
use Rattle.sqlite_value.specs.Order.{Row}
use Rattle.sqlite_value.specs.Keys.{prefix_cmp}
use Rattle.sqlite_value.specs.declared.keys.Order.{Order}
use Rattle.sqlite_value.specs.declared.value.Value.TheVariants.{Int}
use Rattle.sqlite_trees.specs.declared.error.StoreError.{StoreError}
use Rattle.sqlite_trees.specs.declared.store.Direction.{Direction}
use Rattle.sqlite_trees.specs.declared.store.Shape.TheVariants.{Table, Index as Ordered}
use Rattle.sqlite_trees.specs.declared.store.Store.{Ghosts}
use Rattle.sqlite_trees.specs.Tree.{Trees, rowid, has_rowid, put_row, without_rowid}
use Rattle.sqlite_trees.specs.View.{View, IsClean, IsFailure, IsQuiet, IsRolledBack, KeepsSchema, GoesBack}
use Rattle.sqlite_sql.specs.declared.query.Index.{Index}
use Rattle.sqlite_sql.specs.Catalog.{IsIndexOf}
use Rattle.sqlite_exec.specs.Calls.{OnlyReads, KeepsLists, SetsTable}
use Rattle.sqlite_exec.specs.Loops.{left_of}
use Rattle.sqlite_exec.specs.Plan.{resolved, range, until}
use Rattle.sqlite_rules.specs.Edit.{id_in, next_rowid}
use Rattle.keyed_trees.specs.Layout.{KeyShape}
use Rattle.keyed_trees.specs.Rows.{FindsRow, has_key, is_backward, row_of}

-- a call that reads: answered, it has moved cursors at most; failed, the transaction may be broken
pub record ReadsStore {S A : Type 0} (g : Ghosts S) (old new : S) (result : Result A StoreError)
    : Type 0 where
  pub same : IsClean (g.view new) → OnOk result (OnlyReads (g.view old) (g.view new))
  pub sound : IsClean (g.view new) → OnOk result ((g.view old).is_broken ≡ false)
  pub err : IsClean (g.view new) → IfErr result (IsFailure (g.view old) (g.view new))
  pub schema : KeepsSchema (g.view old) (g.view new)
  pub quiet : IsQuiet g.view g.faults g.recovers g.is_shielded old new

-- a call that reads, and undoes the transaction where it fails
pub record ReadsOrUndoes {S A : Type 0} (g : Ghosts S) (old new : S) (result : Result A StoreError)
    : Type 0 where
  pub same : IsClean (g.view new) → OnOk result (OnlyReads (g.view old) (g.view new))
  pub sound : IsClean (g.view new) → OnOk result ((g.view old).is_broken ≡ false)
  pub err : IsClean (g.view new) → OnErr result (IsRolledBack (g.view old) (g.view new))
  pub lists : KeepsLists (g.view old) (g.view new)
  pub quiet : IsQuiet g.view g.faults g.recovers g.is_shielded old new

-- a call that writes, and undoes the transaction where it fails
pub record WritesOrUndoes {S A : Type 0} (g : Ghosts S) (Effect : View → View → Type 0)
    (old new : S) (result : Result A StoreError) : Type 0 where
  pub ok : OnOk result (IsClean (g.view new) → Effect (g.view old) (g.view new))
  pub err : IsClean (g.view new) → OnErr result (IsRolledBack (g.view old) (g.view new))
  pub lists : OnErr result (KeepsLists (g.view old) (g.view new))
  pub quiet : IsQuiet g.view g.faults g.recovers g.is_shielded old new

-- the key stands over a table, and has an entry for each of its rows
pub record Serves (k : KeyShape) (v : View) : Type 0 where
  pub shaped : v.shape k.tree ≡ Ordered k.order
  pub table : v.shape k.table ≡ Table
  pub whole : v.is_broken ≡ false → IsIndexOf k.columns (v.trees k.table) (v.trees k.tree)

-- the entry is one that begins with the key, or no entry begins with it
abbrev pub FindsEntry : Order → Row → List Row → Row → Bool → Type 0
FindsEntry o key entries entry true =
    Contains entries entry × (is_eq (prefix_cmp o entry key) ≡ true)
FindsEntry o key entries entry false =
    AllByRecursion (λ e. is_eq (prefix_cmp o e key) ≡ false) entries

-- the rows to which the entries of a range of a key lead
abbrev pub rows_in_range : KeyShape → Direction → Row → Row → Trees → List Row
rows_in_range k direction start stop trees =
    flat_map (resolved (trees k.table) (length k.columns))
    (range k.order (is_backward direction) start stop (trees k.tree))

-- the first of these rows were read, at most `most` of them
abbrev pub AreReadUpTo : {R : Type 0} → (R → Row) → ℕ → List Row → List (ℤ × R) → Type 0
AreReadUpTo cells most rows read = map (row_of cells) read ≡ take most rows

-- the rows to which the entries lead that the first cursor has left in the range
abbrev pub left_in_range : KeyShape → Direction → Row → View → List Row
left_in_range k direction stop v =
    flat_map (resolved (v.trees k.table) (length k.columns))
    (until k.order (is_backward direction) stop (left_of v 0))

-- the row is the next of them, or there is none
abbrev pub StepsInRange : KeyShape → Direction → Row → View → View → Row → Bool → Type 0
StepsInRange k direction stop old new row true =
    left_in_range k direction stop old ≡ row ∷ left_in_range k direction stop new
StepsInRange k direction stop old new row false = left_in_range k direction stop old ≡ []

-- what was read is the next of them, or there is none
abbrev pub ReadsNext : {R : Type 0} → (R → Row) → KeyShape → Direction → Row → View → View
    → Option (ℤ × R) → Type 0
ReadsNext cells k direction stop old new None = left_in_range k direction stop old ≡ []
ReadsNext cells k direction stop old new (Some it) =
    left_in_range k direction stop old ≡ row_of cells it ∷ left_in_range k direction stop new

-- what was read is the next row that the first cursor has left, or there is none
abbrev pub ReadsNextRow : {R : Type 0} → (R → Row) → View → View → Option (ℤ × R) → Type 0
ReadsNextRow cells old new None = left_of old 0 ≡ []
ReadsNextRow cells old new (Some it) = left_of old 0 ≡ row_of cells it ∷ left_of new 0

-- the table has this row more, after all others
abbrev pub AppendsRow : List Index → ℕ → Row → View → View → Type 0
AppendsRow catalog table columns old new =
    SetsTable catalog old new table
    (old.trees table ++ (Int (next_rowid (old.trees table)) ∷ columns) ∷ [])

-- the table has this row, in place of the one that had its rowid
abbrev pub PutsRow : List Index → ℕ → Row → View → View → Type 0
PutsRow catalog table row old new =
    SetsTable catalog old new table (put_row row (old.trees table))

-- no row had the rowid, and the table has this row
abbrev pub AddsRowAt : List Index → ℕ → ℤ → Row → View → View → Type 0
AddsRowAt catalog table id columns old new =
    (filter (has_rowid id) (old.trees table) ≡ [])
    × SetsTable catalog old new table (put_row (Int id ∷ columns) (old.trees table))

-- the table has no row with this rowid
abbrev pub RemovesRow : List Index → ℕ → ℤ → View → View → Type 0
RemovesRow catalog table id old new =
    SetsTable catalog old new table (without_rowid id (old.trees table))

-- no row has the key and nothing has changed, or one that has it has these columns now
abbrev pub SetsKey : List Index → KeyShape → Row → Row → View → View → Type 0
SetsKey catalog k key columns old new =
    ((old.is_broken ≡ false) × (filter (has_key k key) (old.trees k.table) ≡ []) × OnlyReads old new)
    ⊎ ((row : Row) × FindsRow (has_key k key) (old.trees k.table) row true
    × SetsTable catalog old new k.table
    (put_row (Int (id_in (rowid row)) ∷ columns) (old.trees k.table)))

-- all is as at the newest mark, or there was none and nothing has changed
pub record GoesBackOrStays (old new : View) : Type 0 where
  pub back : old.marks ≢ [] → GoesBack old new
  pub none : old.marks ≡ [] → new ≡ old
