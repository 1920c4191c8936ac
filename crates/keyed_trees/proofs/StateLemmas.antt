-- What the calls of a store leave of tables, as a database.
use Rattle.std.proofs.Common.{◌≡◌, ◌≢◌, ◌-◌, ℕ, ℤ, Bool, false, List, [], ◌∷◌, ◌++◌, map, take, filter, length, get_or, ◌<◌, if◌then◌else◌, Result, Ok, Err, OnOk, IsTrue, IsPermutation, refl, sym, ap, subst, ◌∙◌, inl, inr, arith, true≢false}
use Rattle.std.specs.List.{AllByRecursion}
use Rattle.std.specs.Result.{is_err}
use Rattle.std.proofs.lemmas.List.{get_or-map, get_or_push, length-map, length_push, take-map, take_at}
use Rattle.std.proofs.lemmas.List.Sorted.{length_permutation}
use Rattle.sqlite_value.specs.Order.{Row}
use Rattle.sqlite_value.specs.declared.value.Value.TheVariants.{Int}
use Rattle.sqlite_trees.specs.declared.store.Store.{Ghosts}
use Rattle.sqlite_trees.specs.Tree.{Trees, rowid, put_row}
use Rattle.sqlite_trees.specs.View as store
use Rattle.sqlite_trees.specs.View.{View, Snapshot, IsClean, IsQuiet, OnlyWrites}
use Rattle.sqlite_schema.specs.declared.schema.Schema.{Schema}
use Rattle.sqlite_sql.specs.declared.query.Index.{Index}
use Rattle.sqlite_exec.specs.Calls.{SetsTable}
use Rattle.sqlite_rules.specs.Edit.{id_in}
use Rattle.sqlite.specs.State.{State, Savepoint, Survives}
use Rattle.keyed_trees.specs.declared.layout.Layout.{Ghosts as Layout}
use Rattle.keyed_trees.specs.Calls.{LeavesWritten, LeavesUndone}
use Rattle.keyed_trees.specs.Effects.{WritesInside, OthersStay, AddsAt, AppendsTo, PutsInto, RemovesFrom, SetsByKey}
use Rattle.keyed_trees.specs.Frames.{Follows}
use Rattle.keyed_trees.specs.Kept.{state, database, the_mark, mark_of}
use Rattle.keyed_trees.specs.Layout.{KeyShape, key_of}
use Rattle.keyed_trees.specs.Rows.{has_key}
use Rattle.keyed_trees.specs.Serving.{KeepsTables}
use Rattle.keyed_trees.specs.NextRowids.{NextRowid}
use Rattle.keyed_trees.specs.Stages.{HasGoneBack, HasReleased}
use Rattle.keyed_trees.specs.StoreCalls.{AddsRowAt, AppendsRow, GoesBackOrStays, PutsRow, RemovesRow, SetsKey}
use Rattle.keyed_trees.proofs.EntryLemmas.{the_one}
use Rattle.keyed_trees.proofs.OpenLemmas.{sound_is_open}

all-mapped : {A B : Type 0} (P : B → Type 0) (f : A → B) (xs : List A) → AllByRecursion P (map f xs) → AllByRecursion (λ x. P (f x)) xs
all-mapped P f [] h = tt
all-mapped P f (x ∷ xs) h = (h.0, all-mapped P f xs h.1)

nothing_last : {A : Type 0} (xs : List A) (y : A) → [] ≡ xs ++ y ∷ [] → ⊥
nothing_last [] y e = absurd (cc)
nothing_last (x ∷ xs) y e = absurd (cc)

-- the last of a list, and what stands before it
module _ {A B : Type 0} (f : A → B) (xs : List A) (earlier : List B) (y : B) (are : map f xs ≡ earlier ++ y ∷ []) where
  last_place : length earlier ≡ length xs - 1
  last_place = omega (arith, length-map xs f, ap length are, length_push earlier y)

  front_is : map f (take (length xs - 1) xs) ≡ earlier
  front_is = sym (take-map f (length xs - 1) xs) ∙ ap (take (length xs - 1)) are ∙ take_at earlier (y ∷ []) (length xs - 1) last_place

  last_is : (d : A) → f (get_or xs (length xs - 1) d) ≡ y
  last_is d =
      let within : length xs - 1 < length xs = omega (arith, length-map xs f, ap length are, length_push earlier y) in
      sym (get_or-map f xs (length xs - 1) d (f d) within) ∙ ap (λ l. get_or l (length xs - 1) (f d)) are ∙ get_or_push earlier y (f d) (length xs - 1) last_place

module _ {S : Type 0} (schema : Schema) (g : Ghosts S) (a b : S) (mode : Bool) (quiet : IsQuiet g.view g.faults g.recovers g.is_shielded a b) where
  abbrev at : S → Bool → State
  at s in_transaction = state schema g (record { store = s; in_transaction = in_transaction })

  survived : (later : Bool) → Survives (at a mode) (at b later) (λ _. ⊥)
  survived later = record {
    clean = quiet.clean;
    shield = quiet.shield;
    counts = quiet.counts;
    limit = refl;
    closes = quiet.closes;
    crash = λ clean db there. inl (quiet.outcomes db there);
  }

  -- a store that was rolled back
  pub undone : (IsClean (g.view b) → store.IsRolledBack (g.view a) (g.view b)) → LeavesUndone (at a mode) (at b false)
  undone back = record {
    undone = λ clean. let kept = (back clean).kept clean in record {
      was_open = kept.was_open;
      undone = λ o. (ap (database schema) ((back clean).undone o).0, ap (database schema) (kept.committed o));
      autocommit = refl;
      unmarked = refl;
      counts = record { changes = refl; last_rowid = refl };
    };
    follows = record {
      survives = survived false;
      live = λ live. ((back live.0).kept live.0).was_open live.1;
      committed = λ live. ap (database schema) (((back live.0).kept live.0).committed live.1);
      unmarked = λ live was is. refl;
    };
  }

  -- a call that failed has undone the transaction
  pub failed : {A E : Type 0} (Effect : State → State → Type 0) (e : E) → (IsClean (g.view b) → store.IsRolledBack (g.view a) (g.view b)) → LeavesWritten {A = A} Effect (at a mode) (at b false) (Err e)
  failed Effect e back = let it = undone back in record { ok = λ clean. tt; err = λ clean. inr (it.undone clean); follows = it.follows }

  module _ (broken : (g.view a).is_open ≡ false → IsTrue (g.view a).is_broken) (inside : IsTrue mode) where
    goes_on : (g.view a).is_broken ≡ false → OnlyWrites (g.view a) (g.view b) → WritesInside (at a mode) (at b mode)
    goes_on sound rest = let opened = sound_is_open (g.view a) broken sound in record {
      was = inside;
      schema = refl;
      shown = record {
        was_open = opened;
        is_open = ap (λ (v : View). v.is_open) rest ∙ opened;
        now_is = refl;
        committed_is = ap (λ (v : View). database schema v.committed) rest;
        mode = inside;
      };
      marks = ap (λ (v : View). if mode then map (mark_of schema) v.marks else []) rest;
    }

    -- a call that has written, and goes on
    written : {E : Type 0} (Effect : State → State → Type 0) → (IsClean (g.view b) → (g.view a).is_broken ≡ false) → (IsClean (g.view b) → OnlyWrites (g.view a) (g.view b)) → (IsClean (g.view b) → Effect (at a mode) (at b mode))
        → LeavesWritten {A = Unit {0}} {E = E} Effect (at a mode) (at b mode) (Ok tt)
    written Effect sound rest effect = record {
      ok = effect;
      err = λ clean. tt;
      follows = record {
        survives = survived mode;
        live = λ live. sound_is_open (g.view a) broken (sound live.0);
        committed = λ live. ap (λ (v : View). database schema v.committed) (rest live.0);
        unmarked = λ live was is. absurd (true≢false (sym inside ∙ is));
      };
    }

    abbrev mark_at : Snapshot → Savepoint
    mark_at = mark_of schema

    -- the marks of a transaction that is open
    marks_in : (v : View) (marks : List Savepoint) → (if mode then map mark_at v.marks else []) ≡ marks → map mark_at v.marks ≡ marks
    marks_in v marks are = sym (ap (λ (m : Bool). if m then map mark_at v.marks else []) inside) ∙ are

    follows : (IsClean (g.view b) → (g.view a).is_broken ≡ false) → (IsClean (g.view b) → (g.view b).committed ≡ (g.view a).committed) → Follows (at a mode) (at b mode)
    follows sound committed = record {
      survives = survived mode;
      live = λ live. sound_is_open (g.view a) broken (sound live.0);
      committed = λ live. ap (database schema) (committed live.0);
      unmarked = λ live was is. absurd (true≢false (sym inside ∙ is));
    }

    pub released : {E : Type 0} (r : Result (Unit {0}) E) → false ≡ is_err r → (IsClean (g.view b) → (g.view a).is_broken ≡ false) → OnOk r (IsClean (g.view b) → store.Releases (g.view a) (g.view b))
        → LeavesWritten HasReleased (at a mode) (at b mode) r
    released (Err e) is sound done = absurd (true≢false (sym is))
    released (Ok x) is sound done = record {
      ok = λ clean. let same = done clean in record {
        was = inside;
        is_open = ap (λ (v : View). v.is_open) same ∙ sound_is_open (g.view a) broken (sound clean);
        now = ap (λ (v : View). database schema v.trees) same;
        committed = ap (λ (v : View). database schema v.committed) same;
        mode = inside;
        marks = λ earlier db are.
            ap (λ (m : Bool). if m then map mark_at (g.view b).marks else []) inside ∙ ap (λ (v : View). map mark_at v.marks) same
            ∙ front_is mark_at (g.view a).marks earlier (the_mark db) (marks_in (g.view a) _ are);
      };
      err = λ clean. tt;
      follows = follows sound (λ clean. ap (λ (v : View). v.committed) (done clean));
    }

    back_to : (marks : List Snapshot) → (g.view a).marks ≡ marks → GoesBackOrStays (g.view a) (g.view b) → IsTrue (g.view a).is_open → HasGoneBack (at a mode) (at b mode)
    back_to [] none it opened = let same = it.none none in record {
      was = inside;
      is_open = ap (λ (v : View). v.is_open) same ∙ opened;
      back = λ earlier db are. absurd (nothing_last earlier (the_mark db) (sym (ap (map mark_at) none) ∙ marks_in (g.view a) _ are));
      committed = ap (λ (v : View). database schema v.committed) same;
      mode = inside;
      marks = ap (λ (v : View). if mode then map mark_at v.marks else []) same;
    }
    back_to (m ∷ marks) some it opened =
        let same = (it.back (λ none. absurd (let e : [] ≡ m ∷ marks = sym none ∙ some in cc))).is in
        record {
          was = inside;
          is_open = ap (λ (v : View). v.is_open) same ∙ opened;
          back = λ earlier db are.
              ap (λ (v : View). database schema v.trees) same ∙ ap (λ (p : Savepoint). p.db) (last_is mark_at (g.view a).marks earlier (the_mark db) (marks_in (g.view a) _ are) (store.snapshot (g.view a)));
          committed = ap (λ (v : View). database schema v.committed) same;
          mode = inside;
          marks = ap (λ (v : View). if mode then map mark_at v.marks else []) same;
        }

    back_committed : (marks : List Snapshot) → (g.view a).marks ≡ marks → GoesBackOrStays (g.view a) (g.view b) → (g.view b).committed ≡ (g.view a).committed
    back_committed [] none it = ap (λ (v : View). v.committed) (it.none none)
    back_committed (m ∷ marks) some it = ap (λ (v : View). v.committed) (it.back (λ none. absurd (let e : [] ≡ m ∷ marks = sym none ∙ some in cc))).is

    pub gone_back : {E : Type 0} (r : Result (Unit {0}) E) → false ≡ is_err r → (IsClean (g.view b) → (g.view a).is_broken ≡ false) → OnOk r (IsClean (g.view b) → GoesBackOrStays (g.view a) (g.view b))
        → LeavesWritten HasGoneBack (at a mode) (at b mode) r
    gone_back (Err e) is sound done = absurd (true≢false (sym is))
    gone_back (Ok x) is sound done = record {
      ok = λ clean. back_to (g.view a).marks refl (done clean) (sound_is_open (g.view a) broken (sound clean));
      err = λ clean. tt;
      follows = follows sound (λ clean. back_committed (g.view a).marks refl (done clean));
    }

    module _ (keys : List KeyShape) (catalog : List Index) (listed : map key_of catalog ≡ keys) where
      others_stay : (table : ℕ) (rows : List Row) → SetsTable catalog (g.view a) (g.view b) table rows → OthersStay keys table (g.view a).trees (g.view b).trees
      others_stay table rows sets t other none =
          sets.unlisted t other (all-mapped (λ (k : KeyShape). k.tree ≢ t) key_of catalog (subst (AllByRecursion (λ (k : KeyShape). k.tree ≢ t)) (sym listed) none))

      pub appended : {E : Type 0} (table : ℕ) (columns : Row) → (IsClean (g.view b) → AppendsRow catalog table columns (g.view a) (g.view b))
          → LeavesWritten {A = Unit {0}} {E = E} (AppendsTo keys table columns) (at a mode) (at b mode) (Ok tt)
      appended table columns sets = written (AppendsTo keys table columns) (λ clean. (sets clean).sound) (λ clean. (sets clean).rest) (λ clean. record {
        inside = goes_on (sets clean).sound (sets clean).rest;
        rows = (sets clean).this;
        others = others_stay table _ (sets clean);
      })

      pub put : {E : Type 0} (table : ℕ) (row : Row) → (IsClean (g.view b) → PutsRow catalog table row (g.view a) (g.view b))
          → LeavesWritten {A = Unit {0}} {E = E} (PutsInto keys table row) (at a mode) (at b mode) (Ok tt)
      put table row sets = written (PutsInto keys table row) (λ clean. (sets clean).sound) (λ clean. (sets clean).rest) (λ clean. record {
        inside = goes_on (sets clean).sound (sets clean).rest;
        rows = (sets clean).this;
        others = others_stay table _ (sets clean);
      })

      pub added_at : {E : Type 0} (table : ℕ) (id : ℤ) (columns : Row) → (IsClean (g.view b) → AddsRowAt catalog table id columns (g.view a) (g.view b))
          → LeavesWritten {A = Unit {0}} {E = E} (AddsAt keys table id columns) (at a mode) (at b mode) (Ok tt)
      added_at table id columns adds = written (AddsAt keys table id columns) (λ clean. (adds clean).1.sound) (λ clean. (adds clean).1.rest) (λ clean. record {
        inside = goes_on (adds clean).1.sound (adds clean).1.rest;
        free = (adds clean).0;
        rows = (adds clean).1.this;
        others = others_stay table _ (adds clean).1;
      })

      pub removed : {E : Type 0} (table : ℕ) (id : ℤ) → (IsClean (g.view b) → RemovesRow catalog table id (g.view a) (g.view b))
          → LeavesWritten {A = Unit {0}} {E = E} (RemovesFrom keys table id) (at a mode) (at b mode) (Ok tt)
      removed table id sets = written (RemovesFrom keys table id) (λ clean. (sets clean).sound) (λ clean. (sets clean).rest) (λ clean. record {
        inside = goes_on (sets clean).sound (sets clean).rest;
        rows = (sets clean).this;
        others = others_stay table _ (sets clean);
      })

      set_sound : (k : KeyShape) (key columns : Row) → SetsKey catalog k key columns (g.view a) (g.view b) → (g.view a).is_broken ≡ false
      set_sound k key columns (inl none) = none.0
      set_sound k key columns (inr found) = found.2.sound

      set_rest : (k : KeyShape) (key columns : Row) → SetsKey catalog k key columns (g.view a) (g.view b) → OnlyWrites (g.view a) (g.view b)
      set_rest k key columns (inl none) = none.2 ∙ ap (λ (v : View). let w : View = record (g.view a) { trees = v.trees; cursors = v.cursors } in w) (sym none.2)
      set_rest k key columns (inr found) = found.2.rest

      set_effect : (k : KeyShape) (key columns : Row) → SetsKey catalog k key columns (g.view a) (g.view b) → SetsByKey keys k key columns (at a mode) (at b mode)
      set_effect k key columns (inl none) =
          let same = ap (λ (v : View). v.trees) none.2 in
          record {
            inside = goes_on none.0 (set_rest k key columns (inl none));
            none = λ _. ap (database schema) same;
            one = λ row one. absurd (let e : [] ≡ row ∷ [] = sym none.1 ∙ one in cc);
            others = λ t other out. ap (λ (trees : Trees). trees t) same;
          }
      set_effect k key columns (inr found) = record {
        inside = goes_on found.2.sound found.2.rest;
        none = λ nothing. absurd (no_row (filter (has_key k key) ((g.view a).trees k.table)) nothing found.1.0 found.1.1);
        one = λ row one.
            let same : row ≡ found.0 = the_one row found.0 found.1.0 (subst (λ xs. IsPermutation xs (found.0 ∷ found.1.0)) one found.1.1) in
            found.2.this ∙ ap (λ (r : Row). put_row (Int (id_in (rowid r)) ∷ columns) ((g.view a).trees k.table)) (sym same);
        others = others_stay k.table _ found.2;
      }
        where
          no_row : (rows : List Row) → rows ≡ [] → (rest : List Row) → IsPermutation rows (found.0 ∷ rest) → ⊥
          no_row rows none rest same = omega (arith, length_permutation _ _ same, ap length none)

      pub set : {E : Type 0} (k : KeyShape) (key columns : Row) → (IsClean (g.view b) → SetsKey catalog k key columns (g.view a) (g.view b))
          → LeavesWritten {A = Unit {0}} {E = E} (SetsByKey keys k key columns) (at a mode) (at b mode) (Ok tt)
      set k key columns sets =
          written (SetsByKey keys k key columns) (λ clean. set_sound k key columns (sets clean)) (λ clean. set_rest k key columns (sets clean)) (λ clean. set_effect k key columns (sets clean))

-- a transaction that is over, or whose store is shut
pub over : {L S : Type 0} (schema : Schema) (g : Ghosts S) (a : S) (mode : Bool) (l : Layout L) (catalog : List Index) (known : List NextRowid) → KeepsTables l g a catalog known mode → (IsTrue (g.view a).is_open → mode ≡ false)
    → LeavesUndone (state schema g (record { store = a; in_transaction = mode })) (state schema g (record { store = a; in_transaction = false }))
over schema g a mode l catalog known keeps out = record {
  undone = λ clean. record {
    was_open = λ on. on;
    undone = λ on. (ap (database schema) (keeps.serving.settled on (out on)).0, refl);
    autocommit = refl;
    unmarked = refl;
    counts = record { changes = refl; last_rowid = refl };
  };
  follows = record {
    survives = record {
      clean = omega arith;
      shield = λ it. it;
      counts = omega arith;
      limit = refl;
      closes = λ clean on. inl on;
      crash = λ clean db there. inl there;
    };
    live = λ live. live.1;
    committed = λ live. refl;
    unmarked = λ live was is. refl;
  };
}
