-- What a write leaves of trees that are consistent.
use Rattle.std.proofs.Common.{◌≡◌, ◌≢◌, ℕ, List, [], ◌∷◌, map, sym, subst, inl, inr, Contains}
use Rattle.std.specs.List.{AllByRecursion}
use Rattle.std.proofs.lemmas.List.Elements.{All-from_recursion, All-contains}
use Rattle.std.proofs.lemmas.Bool.{cases_eq}
use Rattle.sqlite_value.specs.Order.{Row}
use Rattle.sqlite_trees.specs.declared.store.Shape.TheVariants.{Table}
use Rattle.sqlite_trees.specs.Objects.{catalog_tree}
use Rattle.sqlite_trees.specs.Tree.{Trees}
use Rattle.sqlite_trees.specs.View.{View}
use Rattle.sqlite_sql.specs.declared.query.Index.{Index}
use Rattle.sqlite_sql.specs.Catalog.{IsIndexed}
use Rattle.sqlite_exec.specs.Calls.{IsNoIndex, SetsTable}
use Rattle.keyed_trees.specs.declared.layout.Layout.{Ghosts as Layout}
use Rattle.keyed_trees.specs.Files.{AreKeyed, IsConsistent}
use Rattle.keyed_trees.specs.Layout.{KeyShape, key_of}

keyed_all : (catalog : List Index) (db : Trees) → IsIndexed catalog db → AreKeyed (map key_of catalog) db
keyed_all [] db h = tt
keyed_all (i ∷ catalog) db h = (h.0, keyed_all catalog db h.1)

indexed_all : (catalog : List Index) (db : Trees) → AreKeyed (map key_of catalog) db → IsIndexed catalog db
indexed_all [] db h = tt
indexed_all (i ∷ catalog) db h = (h.0, indexed_all catalog db h.1)

pub indexed_of : (catalog : List Index) (keys : List KeyShape) → map key_of catalog ≡ keys → (db : Trees) → AreKeyed keys db → IsIndexed catalog db
indexed_of catalog keys listed db h = indexed_all catalog db (subst (λ ks. AreKeyed ks db) (sym listed) h)

-- none of these keys is the list of objects
abbrev pub IsApart : List KeyShape → Type 0
IsApart keys = AllByRecursion (λ (k : KeyShape). (k.tree ≢ catalog_tree) × (k.table ≢ catalog_tree)) keys

no_index : (catalog : List Index) → IsApart (map key_of catalog) → IsNoIndex catalog catalog_tree
no_index [] h = tt
no_index (i ∷ catalog) h = (h.0.0, no_index catalog h.1)

-- the rows of each table, where those of one are others
rows_set : (IsRow : ℕ → Row → Type 0) (old new : Trees) (table : ℕ) → (AllByRecursion (IsRow table) (old table) → AllByRecursion (IsRow table) (new table)) → (tables : List ℕ) → AllByRecursion (λ t. t ≢ table → new t ≡ old t) tables
    → AllByRecursion (λ t. AllByRecursion (IsRow t) (old t)) tables → AllByRecursion (λ t. AllByRecursion (IsRow t) (new t)) tables
rows_set IsRow old new table good [] same are = tt
rows_set IsRow old new table good (t ∷ tables) same are = (
  elim (cases_eq t table) [
    | inl this ↦ subst (λ n. AllByRecursion (IsRow n) (old n) → AllByRecursion (IsRow n) (new n)) (sym this) good are.0
    | inr other ↦ subst (AllByRecursion (IsRow t)) (sym (same.0 other)) are.0
  ],
  rows_set IsRow old new table good tables same.1 are.1,
)

still : (v w : View) (catalog : List Index) (table : ℕ) (rows : List Row) → SetsTable catalog v w table rows → (tables : List ℕ) → AllByRecursion (λ t. v.shape t ≡ Table) tables → AllByRecursion (λ t. t ≢ table → w.trees t ≡ v.trees t) tables
still v w catalog table rows sets [] are = tt
still v w catalog table rows sets (t ∷ tables) are = ((λ other. sets.others t other are.0), still v w catalog table rows sets tables are.1)

-- one table has other rows
pub consistent_set : {L : Type 0} (l : Layout L) (v w : View) (catalog : List Index) (table : ℕ) (rows : List Row) → map key_of catalog ≡ l.keys → table ≢ catalog_tree → IsApart l.keys → AllByRecursion (λ t. v.shape t ≡ Table) l.tables
    → (AllByRecursion (l.is_row table) (v.trees table) → AllByRecursion (l.is_row table) rows) → SetsTable catalog v w table rows → IsConsistent l v.trees → IsConsistent l w.trees
consistent_set l v w catalog table rows listed apart keys are_tables good sets it = record {
  keyed = subst (λ ks. AreKeyed ks w.trees) listed (keyed_all catalog w.trees sets.indexed);
  rows = rows_set l.is_row v.trees w.trees table (λ were. subst (AllByRecursion (l.is_row table)) (sym sets.this) (good were)) l.tables (still v w catalog table rows sets l.tables are_tables) it.rows;
  listed = subst l.is_listed (sym (sets.unlisted catalog_tree (λ same. apart (sym same)) (no_index catalog (subst IsApart (sym listed) keys)))) it.listed;
}

pub table_apart : (tables : List ℕ) (table : ℕ) → AllByRecursion (λ t. t ≢ catalog_tree) tables → Contains tables table → table ≢ catalog_tree
table_apart tables table apart there = All-contains (λ (t : ℕ). t ≢ catalog_tree) tables table (All-from_recursion _ tables apart) there

pub key_apart : (keys : List KeyShape) (k : KeyShape) → IsApart keys → Contains keys k → k.table ≢ catalog_tree
key_apart keys k apart there = (All-contains (λ (l : KeyShape). (l.tree ≢ catalog_tree) × (l.table ≢ catalog_tree)) keys k (All-from_recursion _ keys apart) there).1
