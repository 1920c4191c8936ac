-- The rowids that the next rows of some tables will have.
use Rattle.std.specs.Prelude.{◌≡◌, ◌⊎◌, ℕ, ℤ, ◌==◌, not, filter, List, [], ◌∷◌, ◌++◌}
use Rattle.std.specs.List.{AllByRecursion}
use Rattle.sqlite_trees.specs.declared.store.Shape.TheVariants.{Table}
use Rattle.sqlite_trees.specs.View.{View}
use Rattle.sqlite_rules.specs.Edit.{next_rowid}

-- a table's tree, and the rowid of its next row
abbrev pub NextRowid : Type 0
NextRowid = ℕ × ℤ

-- each of them is one above the last rowid of its table
abbrev pub AreNext : View → List NextRowid → Type 0
AreNext v known =
    AllByRecursion (λ e. (v.shape e.0 ≡ Table) × (next_rowid (v.trees e.0) ≡ e.1)) known

abbrev pub without : ℕ → List NextRowid → List NextRowid
without table known = filter (λ e. not (e.0 == table)) known

-- of this table the new rowid is known, or nothing is
abbrev pub Knows : ℕ → ℤ → List NextRowid → List NextRowid → Type 0
Knows table id old new =
    (new ≡ without table old ++ (table, id) ∷ []) ⊎ (new ≡ without table old)
