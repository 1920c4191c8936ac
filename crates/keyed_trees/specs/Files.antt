-- What a layout asks of trees, and of a store that keeps them.
use Rattle.std.specs.Prelude.{ℕ, ℤ, List, ◌∷◌, IsTrue}
use Rattle.std.specs.List.{AllByRecursion}
use Rattle.sqlite_value.specs.declared.value.Value.TheVariants.{Int}
use Rattle.sqlite_value.specs.Order.{Row}
use Rattle.sqlite_trees.specs.declared.store.Store.{Ghosts}
use Rattle.sqlite_trees.specs.Objects.{catalog_tree}
use Rattle.sqlite_trees.specs.Tree.{Trees}
use Rattle.sqlite_trees.specs.View.{IsClean}
use Rattle.sqlite_sql.specs.Catalog.{IsIndexOf}
use Rattle.keyed_trees.specs.declared.layout.Layout.{Ghosts as Layout}
use Rattle.keyed_trees.specs.Layout.{KeyShape}

-- each key has one entry for each row of its table
abbrev pub AreKeyed : List KeyShape → Trees → Type 0
AreKeyed keys trees =
    AllByRecursion (λ k. IsIndexOf k.columns (trees k.table) (trees k.tree)) keys

-- each key has its entries, each row may stand in its table, and the list of objects is that of
-- these tables
pub record IsConsistent {L : Type 0} (l : Layout L) (trees : Trees) : Type 0 where
  pub keyed : AreKeyed l.keys trees
  pub rows : AllByRecursion (λ t. AllByRecursion (l.is_row t) (trees t)) l.tables
  pub listed : l.is_listed (trees catalog_tree)

-- trees that a transaction may commit
pub record MayBeCommitted {L : Type 0} (l : Layout L) (trees : Trees) : Type 0 where
  pub consistent : IsConsistent l trees
  pub whole : l.is_whole trees

-- The store of a file with these tables: where its disk was honest, its trees are numbered, and
-- whatever a crash leaves may have been committed.
pub record IsFileOf {L S : Type 0} (l : Layout L) (g : Ghosts S) (store : S) : Type 0 where
  pub numbered : IsClean (g.view store) → IsTrue (g.view store).is_numbered
  pub left : IsClean (g.view store) → (db : Trees) → g.recovers store db → MayBeCommitted l db

-- where the disk was honest so far, a row with these columns may stand in the table of a store,
-- whatever its rowid
abbrev pub MayStand : {L S : Type 0} → Layout L → Ghosts S → S → ℕ → Row → Type 0
MayStand l g store table columns =
    IsClean (g.view store) → (id : ℤ) → l.is_row table (Int id ∷ columns)
