-- What tables keep true of their store.
use Rattle.std.specs.Prelude.{◌≡◌, ℕ, ◌<◌, ◌^◌, Bool, false, List, [], map, IsTrue, Any}
use Rattle.std.specs.List.{AllByRecursion}
use Rattle.sqlite_trees.specs.declared.store.Shape.TheVariants.{Table}
use Rattle.sqlite_trees.specs.declared.store.Store.{Ghosts}
use Rattle.sqlite_trees.specs.Tree.{IsIndexShape}
use Rattle.sqlite_trees.specs.View.{View, Snapshot, IsClean}
use Rattle.sqlite_sql.specs.declared.query.Index.{Index}
use Rattle.sqlite_sql.specs.Catalog.{IsCatalog}
use Rattle.keyed_trees.specs.declared.layout.Layout.{Ghosts as Layout}
use Rattle.keyed_trees.specs.Files.{IsConsistent, MayBeCommitted, IsFileOf}
use Rattle.keyed_trees.specs.Kept.{Kept}
use Rattle.keyed_trees.specs.Layout.{key_of}
use Rattle.keyed_trees.specs.NextRowids.{NextRowid, AreNext}

-- what a mark goes back to has the same shapes, and is consistent
pub record IsGoodMark {L : Type 0} (l : Layout L) (v : View) (m : Snapshot) : Type 0 where
  pub shape : m.shape ≡ v.committed_shape
  pub reals : m.reals ≡ v.committed_reals
  pub consistent : IsConsistent l m.trees

-- The shapes are those of the last commit and fit the tables and keys. The trees are consistent: now,
-- at the last commit and at each mark. Outside a transaction nothing is written and nothing marked.
pub record IsServing {L : Type 0} (l : Layout L) (v : View) (catalog : List Index)
    (known : List NextRowid) (in_transaction : Bool) : Type 0 where
  pub shape : IsClean v → v.shape ≡ v.committed_shape
  pub reals : IsClean v → v.reals ≡ v.committed_reals
  pub are_tables : IsClean v → AllByRecursion (λ t. v.shape t ≡ Table) l.tables
  pub shaped : IsClean v → IsCatalog v.shape catalog
  pub whole : IsClean v → (t : ℕ) → t < 2 ^ 32 → IsIndexShape (v.shape t)
      → Any (λ i. i.tree ≡ t) catalog
  pub unbroken : IsTrue v.is_open → v.is_broken ≡ false
  pub now : IsTrue v.is_open → IsConsistent l v.trees
  pub kept : IsTrue v.is_open → MayBeCommitted l v.committed
  pub settled : IsTrue v.is_open → in_transaction ≡ false
      → (v.trees ≡ v.committed) × (v.marks ≡ [])
  pub marked : IsTrue v.is_open → AllByRecursion (IsGoodMark l v) v.marks
  pub next : IsTrue v.is_open → AreNext v known

-- the trees of the store have the shapes of these tables and keys, and there is no other key
pub record HasShapes {L : Type 0} (l : Layout L) (catalog : List Index) (v : View) : Type 0 where
  pub are_tables : AllByRecursion (λ t. v.shape t ≡ Table) l.tables
  pub shaped : IsCatalog v.shape catalog
  pub whole : (t : ℕ) → t < 2 ^ 32 → IsIndexShape (v.shape t) → Any (λ i. i.tree ≡ t) catalog

-- what tables keep true of their store, after each call and whatever is found after a crash
pub record KeepsTables {L S : Type 0} (l : Layout L) (g : Ghosts S) (store : S)
    (catalog : List Index) (known : List NextRowid) (in_transaction : Bool) : Type 0 where
  pub serving : IsServing l (g.view store) catalog known in_transaction
  pub listed : map key_of catalog ≡ l.keys
  pub file : IsFileOf l g store

-- a transaction is open, and its store not shut
pub record IsActive {S : Type 0} (g : Ghosts S) (k : Kept S) : Type 0 where
  pub mode : IsTrue k.in_transaction
  pub sound : IsClean (g.view k.store) → (g.view k.store).is_broken ≡ false

-- where no transaction was open, none is
abbrev pub StaysOut : {S : Type 0} → Kept S → Kept S → Type 0
StaysOut old new = old.in_transaction ≡ false → new.in_transaction ≡ false
