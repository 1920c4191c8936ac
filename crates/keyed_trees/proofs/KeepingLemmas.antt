-- What the calls of a store leave of what tables keep true of it, and of what a crash may leave.
use Rattle.std.proofs.Common.{◌≡◌, ◌⊎◌, ◌≢◌, ◌≤◌, ℕ, ℤ, Bool, true, false, List, [], ◌∷◌, ◌++◌, pos, ◌+ℤ◌, map, Contains, IsTrue, refl, sym, ap, subst, ◌∙◌, inl, inr, arith, true≢false}
use Rattle.std.specs.List.{AllByRecursion}
use Rattle.std.proofs.lemmas.List.Elements.{All-from_recursion, All-contains}
use Rattle.sqlite_value.specs.Order.{Row}
use Rattle.sqlite_value.specs.declared.value.Value.TheVariants.{Int}
use Rattle.sqlite_trees.specs.declared.store.Shape.{Shape}
use Rattle.sqlite_trees.specs.declared.store.Shape.TheVariants.{Table, Index as Ordered}
use Rattle.sqlite_trees.specs.declared.store.Store.{Ghosts}
use Rattle.sqlite_trees.specs.Objects.{catalog_tree}
use Rattle.sqlite_trees.specs.Tree.{Trees, IsAscending, rowid, put_row, without_rowid}
use Rattle.sqlite_trees.specs.View.{View, Snapshot, doubt, IsClean, IsQuiet, IsRolledBack, Commits, Marks, Releases}
use Rattle.sqlite_trees.proofs.ListLemmas.{all-filter}
use Rattle.sqlite_trees.proofs.TreeLemmas.{all-put_row}
use Rattle.sqlite_sql.specs.declared.query.Index.{Index}
use Rattle.sqlite_sql.specs.Catalog.{IsIndexOf, IsCatalog}
use Rattle.sqlite_exec.specs.Calls.{OnlyReads, KeepsLists, SetsTable, IsReady}
use Rattle.sqlite_rules.specs.Edit.{id_in, next_rowid}
use Rattle.keyed_trees.specs.declared.layout.Layout.{Ghosts as Layout}
use Rattle.keyed_trees.specs.Files.{IsFileOf, MayBeCommitted, MayStand}
use Rattle.keyed_trees.specs.Layout.{KeyShape, key_of}
use Rattle.keyed_trees.specs.NextRowids.{NextRowid, AreNext, Knows, without}
use Rattle.keyed_trees.specs.Serving.{HasShapes, IsServing, KeepsTables}
use Rattle.keyed_trees.specs.StoreCalls.{Serves, AppendsRow, SetsKey, GoesBackOrStays}
use Rattle.keyed_trees.proofs.ConsistentLemmas.{IsApart, key_apart, table_apart}
use Rattle.keyed_trees.proofs.RowidLemmas.{next_rowid-append}
use Rattle.keyed_trees.proofs.OpenLemmas.{open_is_clean, sound_is_open}
use Rattle.keyed_trees.proofs.NextRowidLemmas.{all-after, next_of_others, next_known}
use Rattle.keyed_trees.proofs.ServingLemmas.{serving_next, serving_if_clean, serving_read, serving_undone, serving_set, serving_committed, serving_marked, serving_released, serving_back_or_still, serving_over, serving_ready, serving_fresh}

lists_of : (v w : View) → IsRolledBack v w → KeepsLists v w
lists_of v w it = record { shape = it.shape; reals = it.reals; committed_shape = it.committed_shape; committed_reals = it.committed_reals; numbered = it.numbered }

-- no table and no key of the layout is the list of objects
abbrev pub IsUnlisted : {L : Type 0} → Layout L → Type 0
IsUnlisted l = AllByRecursion (λ t. t ≢ catalog_tree) l.tables × IsApart l.keys

module _ {L S : Type 0} (l : Layout L) (g : Ghosts S) (catalog : List Index) (known : List NextRowid) (mode : Bool) (a : S) (was : KeepsTables l g a catalog known mode) where
  -- the tables and the keys of the layout
  pub is_table : (t : ℕ) → Contains l.tables t → IsClean (g.view a) → (g.view a).shape t ≡ Table
  is_table t there clean = All-contains (λ n. (g.view a).shape n ≡ Table) l.tables t (All-from_recursion _ l.tables (was.serving.are_tables clean)) there

  pub is_served : ((g.view a).is_open ≡ false → IsTrue (g.view a).is_broken) → (k : KeyShape) → Contains l.keys k → IsClean (g.view a) → Serves k (g.view a)
  is_served broken k there clean =
      let v = g.view a in
      let it = was.serving in
      let shaped = All-contains (λ (j : KeyShape). (v.shape j.tree ≡ Ordered j.order) × (v.shape j.table ≡ Table)) l.keys k
      (All-from_recursion _ l.keys (subst (AllByRecursion (λ (j : KeyShape). (v.shape j.tree ≡ Ordered j.order) × (v.shape j.table ≡ Table))) was.listed (all-map catalog (it.shaped clean).shaped))) there in
      record {
        shaped = shaped.0;
        table = shaped.1;
        whole = λ sound. All-contains (λ (j : KeyShape). IsIndexOf j.columns (v.trees j.table) (v.trees j.tree)) l.keys k (All-from_recursion _ l.keys (it.now (sound_is_open v broken sound)).keyed) there;
      }
    where
      all-map : (is : List Index) → AllByRecursion (λ (j : Index). ((g.view a).shape j.tree ≡ Ordered j.order) × ((g.view a).shape j.table ≡ Table)) is
          → AllByRecursion (λ (j : KeyShape). ((g.view a).shape j.tree ≡ Ordered j.order) × ((g.view a).shape j.table ≡ Table)) (map key_of is)
      all-map [] h = tt
      all-map (i ∷ is) h = (h.0, all-map is h.1)

  pub is_ready : ((g.view a).is_open ≡ false → IsTrue (g.view a).is_broken) → IsClean (g.view a) → IsReady (g.view a) catalog
  is_ready broken clean = serving_ready l (g.view a) (g.view a) catalog known mode was.serving was.listed clean broken

  pub keeps_over : (IsTrue (g.view a).is_open → mode ≡ false) → KeepsTables l g a catalog known false
  keeps_over over = record { serving = serving_over l (g.view a) catalog known mode was.serving over; listed = was.listed; file = was.file }

  module _ (b : S) (shut : (g.view b).is_clean ≡ false → (g.view b).is_open ≡ false) (quiet : IsQuiet g.view g.faults g.recovers g.is_shielded a b) where
    abbrev v : View
    v = g.view a

    abbrev w : View
    w = g.view b

    before : IsClean w → IsClean v
    before clean = omega (arith, quiet.clean)

    -- a call that is no commit adds nothing to what a crash may leave
    file_still : (IsClean w → w.is_numbered ≡ v.is_numbered) → IsFileOf l g b
    file_still same = record {
      numbered = λ clean. same clean ∙ was.file.numbered (before clean);
      left = λ clean db there. was.file.left (before clean) db (quiet.outcomes db there);
    }

    pub keeps_undone : (IsClean w → IsRolledBack v w) → KeepsLists v w → KeepsTables l g b catalog [] false
    keeps_undone undone lists = record {
      serving = serving_undone l v w catalog known mode was.serving quiet.clean (open_is_clean w shut) undone lists;
      listed = was.listed;
      file = file_still (λ _. lists.numbered);
    }

    kept : (later : List NextRowid) (after : Bool) → (IsClean w → w.is_numbered ≡ v.is_numbered) → (IsClean w → IsServing l w catalog later after) → KeepsTables l g b catalog later after
    kept later after same so = record {
      serving = serving_if_clean l w catalog later after (open_is_clean w shut) so;
      listed = was.listed;
      file = file_still same;
    }

    pub keeps_read : (IsClean w → OnlyReads v w) → KeepsTables l g b catalog known mode
    keeps_read same = kept known mode (λ clean. ap (λ (x : View). x.is_numbered) (same clean)) (λ clean. serving_read l v w catalog known mode was.serving (same clean))

    pub keeps_marked : IsTrue mode → (IsClean w → Marks v w) → KeepsTables l g b catalog known mode
    keeps_marked inside done = kept known mode (λ clean. ap (λ (x : View). x.is_numbered) (done clean).is) (λ clean. serving_marked l v w catalog known mode was.serving (before clean) (λ _. inside) (done clean))

    pub keeps_released : IsTrue mode → (IsClean w → Releases v w) → KeepsTables l g b catalog known mode
    keeps_released inside done = kept known mode (λ clean. ap (λ (x : View). x.is_numbered) (done clean)) (λ clean. serving_released l v w catalog known mode was.serving (before clean) (λ _. inside) (done clean))

    back_numbered : GoesBackOrStays v w → w.is_numbered ≡ v.is_numbered
    back_numbered done = go v.marks refl
      where
        go : (marks : List Snapshot) → v.marks ≡ marks → w.is_numbered ≡ v.is_numbered
        go [] none = ap (λ (x : View). x.is_numbered) (done.none none)
        go (m ∷ marks) some = ap (λ (x : View). x.is_numbered) (done.back (λ none. absurd (let e : [] ≡ m ∷ marks = sym none ∙ some in cc))).is

    pub keeps_back : IsTrue mode → (IsClean w → GoesBackOrStays v w) → KeepsTables l g b catalog [] mode
    keeps_back inside done = kept [] mode (λ clean. back_numbered (done clean)) (λ clean. serving_back_or_still l v w catalog known mode was.serving (before clean) (λ _. inside) (done clean))

    pub keeps_rolled_back : IsRolledBack v w → KeepsTables l g b catalog [] false
    keeps_rolled_back back = keeps_undone (λ _. back) (lists_of v w back)

    -- what is known after one table was written
    next_after : (table : ℕ) (rows : List Row) → SetsTable catalog v w table rows → IsTrue w.is_open → AreNext w (without table known)
    next_after table rows sets on =
        next_of_others v w table known (ap (λ (x : View). x.shape) sets.rest) sets.others (was.serving.next (sym (ap (λ (x : View). x.is_open) sets.rest) ∙ on))

    -- calls that write, which a table's rows may stand
    module _ (unlisted : IsUnlisted l) (inside : IsTrue mode) where
      serving_after : (table : ℕ) (rows : List Row) (later : List NextRowid) → table ≢ catalog_tree → (AllByRecursion (l.is_row table) (v.trees table) → AllByRecursion (l.is_row table) rows)
          → (IsTrue w.is_open → AreNext w later) → IsClean w → SetsTable catalog v w table rows → IsServing l w catalog later mode
      serving_after table rows later other good next clean sets =
          serving_set l v w catalog known mode was.serving was.listed unlisted.1 (before clean) table rows later other good (λ _. inside) next sets

      keeps_set : (table : ℕ) (rows : List Row) (later : List NextRowid) → Contains l.tables table → (IsClean v → AllByRecursion (l.is_row table) (v.trees table) → AllByRecursion (l.is_row table) rows)
          → (IsClean w → IsTrue w.is_open → AreNext w later) → (IsClean w → SetsTable catalog v w table rows) → KeepsTables l g b catalog later mode
      keeps_set table rows later there good next sets =
          kept later mode (λ clean. ap (λ (x : View). x.is_numbered) (sets clean).rest) (λ clean. serving_after table rows later (table_apart l.tables table unlisted.0 there) (good (before clean)) (next clean) clean (sets clean))

      -- a row was added behind the others
      pub keeps_appended : (table : ℕ) (columns : Row) (id : ℤ) (later : List NextRowid) → Contains l.tables table → MayStand l g a table columns → Knows table (id +ℤ pos 1) known later → (IsClean w → next_rowid (v.trees table) ≡ id)
          → (IsClean w → AppendsRow catalog table columns v w) → KeepsTables l g b catalog later mode
      keeps_appended table columns id later there stands knows next sets =
          let rows = v.trees table in
          keeps_set table (rows ++ (Int (next_rowid rows) ∷ columns) ∷ []) later there (λ honest good. all-after (l.is_row table) rows _ good (stands honest _))
          (λ clean on. next_known w table (id +ℤ pos 1) known later knows
          (ap (λ (x : View). x.shape table) (sets clean).rest ∙ is_table table there (before clean))
          (ap next_rowid (sets clean).this ∙ next_rowid-append rows (next_rowid rows) columns ∙ ap (λ n. n +ℤ pos 1) (next clean))
          (next_after table _ (sets clean) on))
          sets

      -- a row was put at its rowid
      pub keeps_put : (table : ℕ) (id : ℤ) (columns : Row) → Contains l.tables table → MayStand l g a table columns → (IsClean w → SetsTable catalog v w table (put_row (Int id ∷ columns) (v.trees table))) → KeepsTables l g b catalog (without table known) mode
      keeps_put table id columns there stands sets =
          keeps_set table _ (without table known) there (λ honest good. all-put_row (l.is_row table) (Int id ∷ columns) (v.trees table) (stands honest id) good) (λ clean on. next_after table _ (sets clean) on) sets

      -- a row was removed
      pub keeps_removed : (table : ℕ) (id : ℤ) → Contains l.tables table → (IsClean w → SetsTable catalog v w table (without_rowid id (v.trees table))) → KeepsTables l g b catalog (without table known) mode
      keeps_removed table id there sets =
          keeps_set table _ (without table known) there (λ honest good. all-filter (l.is_row table) _ (v.trees table) good) (λ clean on. next_after table _ (sets clean) on) sets

      set_numbered : (k : KeyShape) (key columns : Row) → SetsKey catalog k key columns v w → w.is_numbered ≡ v.is_numbered
      set_numbered k key columns (inl none) = ap (λ (x : View). x.is_numbered) none.2
      set_numbered k key columns (inr found) = ap (λ (x : View). x.is_numbered) found.2.rest

      pub keeps_set_by_key : (k : KeyShape) (key columns : Row) → Contains l.keys k → MayStand l g a k.table columns → (IsClean w → SetsKey catalog k key columns v w) → KeepsTables l g b catalog (without k.table known) mode
      keeps_set_by_key k key columns there stands sets = kept (without k.table known) mode (λ clean. set_numbered k key columns (sets clean)) (λ clean. go clean (sets clean))
        where
          go : IsClean w → SetsKey catalog k key columns v w → IsServing l w catalog (without k.table known) mode
          go clean (inl none) =
              let still = serving_read l v w catalog known mode was.serving none.2 in
              serving_next l w catalog known mode still (without k.table known) (λ on. next_of_others w w k.table known refl (λ t other table. refl) (still.next on))
          go clean (inr found) =
              serving_after k.table _ (without k.table known) (key_apart l.keys k unlisted.1 there) (λ good. all-put_row (l.is_row k.table) (Int (id_in (rowid found.0)) ∷ columns) (v.trees k.table) (stands (before clean) _) good)
              (next_after k.table _ found.2) clean found.2

  -- a transaction that begins
  pub keeps_begun : KeepsTables l g a catalog known true
  keeps_begun = record {
    serving = record {
      shape = was.serving.shape;
      reals = was.serving.reals;
      are_tables = was.serving.are_tables;
      shaped = was.serving.shaped;
      whole = was.serving.whole;
      unbroken = was.serving.unbroken;
      now = was.serving.now;
      kept = was.serving.kept;
      settled = λ o out. absurd (true≢false out);
      marked = was.serving.marked;
      next = was.serving.next;
    };
    listed = was.listed;
    file = was.file;
  }

  -- a commit, which adds to what a crash may leave what the transaction saw
  module _ (b : S) (shut : (g.view b).is_clean ≡ false → (g.view b).is_open ≡ false) (broken : (g.view a).is_open ≡ false → IsTrue (g.view a).is_broken) (falls : doubt (g.view a).is_clean ≤ doubt (g.view b).is_clean)
      (crash : (db : Trees) → g.recovers b db → (((g.view a).is_broken ≡ false) × (db ≡ (g.view a).trees)) ⊎ g.recovers a db) (whole : IsClean (g.view a) × IsTrue (g.view a).is_open → l.is_whole (g.view a).trees) where
    sooner : IsClean (g.view b) → IsClean (g.view a)
    sooner clean = omega (arith, falls)

    file_committed : (IsClean (g.view b) → (g.view b).is_numbered ≡ (g.view a).is_numbered) → IsFileOf l g b
    file_committed same = record {
      numbered = λ clean. same clean ∙ was.file.numbered (sooner clean);
      left = λ clean db there. elim (crash db there) [
        | inl new ↦
            let on = sound_is_open (g.view a) broken new.0 in
            let good : MayBeCommitted l (g.view a).trees = record { consistent = was.serving.now on; whole = whole (sooner clean, on) } in
            subst (MayBeCommitted l) (sym new.1) good
        | inr old ↦ was.file.left (sooner clean) db old
      ];
    }

    pub keeps_committed : (IsClean (g.view b) → Commits (g.view a) (g.view b)) → KeepsTables l g b catalog known false
    keeps_committed done = record {
      serving = serving_if_clean l (g.view b) catalog known false (open_is_clean (g.view b) shut) (λ clean. serving_committed l (g.view a) (g.view b) catalog known mode was.serving (λ on. whole (sooner clean, on)) (done clean));
      listed = was.listed;
      file = file_committed (λ clean. ap (λ (x : View). x.is_numbered) (done clean).is);
    }

    pub keeps_uncommitted : IsRolledBack (g.view a) (g.view b) → KeepsTables l g b catalog [] false
    keeps_uncommitted back = record {
      serving = serving_undone l (g.view a) (g.view b) catalog known mode was.serving falls (open_is_clean (g.view b) shut) (λ _. back) (lists_of (g.view a) (g.view b) back);
      listed = was.listed;
      file = file_committed (λ _. back.numbered);
    }

all-of-map : {A B : Type 0} (P : B → Type 0) (f : A → B) (xs : List A) → AllByRecursion P (map f xs) → AllByRecursion (λ x. P (f x)) xs
all-of-map P f [] h = tt
all-of-map P f (x ∷ xs) h = (h.0, all-of-map P f xs h.1)

apart_in : (catalog : List Index) → IsAscending (λ (one other : KeyShape). one.tree ≢ other.tree) (map key_of catalog) → IsAscending (λ (i j : Index). i.tree ≢ j.tree) catalog
apart_in [] up = tt
apart_in (i ∷ catalog) up = (all-of-map (λ (other : KeyShape). i.tree ≢ other.tree) key_of catalog up.0, apart_in catalog up.1)

pub catalog_of : (shapes : ℕ → Shape) (catalog : List Index) (keys : List KeyShape) → map key_of catalog ≡ keys → IsAscending (λ (one other : KeyShape). one.tree ≢ other.tree) keys → AllByRecursion (λ (i : Index). (shapes i.tree ≡ Ordered i.order) × (shapes i.table ≡ Table)) catalog → IsCatalog shapes catalog
catalog_of shapes catalog keys listed apart shaped = record {
  apart = apart_in catalog (subst (IsAscending (λ (one other : KeyShape). one.tree ≢ other.tree)) (sym listed) apart);
  shaped = shaped;
}

-- the store of a file, once its transaction is undone
module _ {L S : Type 0} (l : Layout L) (g : Ghosts S) (a b : S) (file : IsFileOf l g a) (undone : IsRolledBack (g.view a) (g.view b)) (quiet : IsQuiet g.view g.faults g.recovers g.is_shielded a b) where
  earlier : IsClean (g.view b) → IsClean (g.view a)
  earlier clean = omega (arith, quiet.clean)

  pub file_undone : IsFileOf l g b
  file_undone = record {
    numbered = λ clean. undone.numbered ∙ file.numbered (earlier clean);
    left = λ clean db there. file.left (earlier clean) db (quiet.outcomes db there);
  }

  pub trees_undone : IsClean (g.view b) → IsTrue (g.view b).is_open → ((g.view b).trees ≡ (g.view a).committed) × ((g.view b).trees ≡ (g.view b).committed)
  trees_undone clean on = ((undone.undone on).0, (undone.undone on).0 ∙ sym ((undone.kept clean).committed on))

  pub keeps_fresh : (catalog : List Index) → map key_of catalog ≡ l.keys → ((g.view b).is_clean ≡ false → (g.view b).is_open ≡ false) → (IsClean (g.view b) → IsTrue (g.view b).is_open) → (IsTrue (g.view b).is_open → g.recovers b (g.view b).committed) → HasShapes l catalog (g.view b)
      → KeepsTables l g b catalog [] false
  keeps_fresh catalog listed shut on stays fits = record {
    serving = serving_if_clean l (g.view b) catalog [] false (open_is_clean (g.view b) shut)
        (λ clean. serving_fresh l (g.view a) (g.view b) catalog undone (on clean) fits (file_undone.left clean _ (stays (on clean))) clean);
    listed = listed;
    file = file_undone;
  }
