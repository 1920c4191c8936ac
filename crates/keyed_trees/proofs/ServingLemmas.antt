-- What the calls of a store leave of what tables keep true of its view.
use Rattle.std.proofs.Common.{◌≡◌, ◌≢◌, ◌≤◌, ◌-◌, ℕ, zero, suc, Bool, false, List, [], ◌∷◌, map, take, length, get_or, if◌then◌else◌, IsTrue, refl, sym, ap, subst, ◌∙◌, arith, true≢false}
use Rattle.std.specs.List.{AllByRecursion}
use Rattle.sqlite_value.specs.Order.{Row}
use Rattle.sqlite_trees.specs.Objects.{catalog_tree}
use Rattle.sqlite_trees.specs.View.{View, Snapshot, snapshot, doubt, IsClean, IsRolledBack, Commits, Marks, Releases, GoesBack}
use Rattle.sqlite_sql.specs.declared.query.Index.{Index}
use Rattle.sqlite_exec.specs.Calls.{OnlyReads, KeepsLists, SetsTable, IsReady}
use Rattle.keyed_trees.specs.declared.layout.Layout.{Ghosts as Layout}
use Rattle.keyed_trees.specs.Files.{IsConsistent, MayBeCommitted}
use Rattle.keyed_trees.specs.Layout.{key_of}
use Rattle.keyed_trees.specs.NextRowids.{NextRowid, AreNext}
use Rattle.keyed_trees.specs.Serving.{HasShapes, IsServing, IsGoodMark}
use Rattle.keyed_trees.specs.StoreCalls.{GoesBackOrStays}
use Rattle.keyed_trees.proofs.ConsistentLemmas.{IsApart, consistent_set, indexed_of}
use Rattle.keyed_trees.proofs.OpenLemmas.{sound_is_open}
use Rattle.keyed_trees.proofs.NextRowidLemmas.{all-after}

all-take : {A : Type 0} (P : A → Type 0) (n : ℕ) (xs : List A) → AllByRecursion P xs → AllByRecursion P (take n xs)
all-take P zero xs h = tt
all-take P (suc n) [] h = tt
all-take P (suc n) (x ∷ xs) h = (h.0, all-take P n xs h.1)

all-at : {A : Type 0} (P : A → Type 0) (xs : List A) (d : A) (k : ℕ) → AllByRecursion P xs → P d → P (get_or xs k d)
all-at P [] d k h other = other
all-at P (x ∷ xs) d zero h other = h.0
all-at P (x ∷ xs) d (suc k) h other = all-at P xs d k h.1 other

module _ {L : Type 0} (l : Layout L) where
  marks_still : (v w : View) → w.committed_shape ≡ v.committed_shape → w.committed_reals ≡ v.committed_reals → (marks : List Snapshot) → AllByRecursion (IsGoodMark l v) marks → AllByRecursion (IsGoodMark l w) marks
  marks_still v w shape reals [] good = tt
  marks_still v w shape reals (m ∷ marks) good =
      (record { shape = good.0.shape ∙ sym shape; reals = good.0.reals ∙ sym reals; consistent = good.0.consistent }, marks_still v w shape reals marks good.1)

  -- other rowids are known
  pub serving_next : (v : View) (catalog : List Index) (known : List NextRowid) (mode : Bool) → IsServing l v catalog known mode → (later : List NextRowid) → (IsTrue v.is_open → AreNext v later) → IsServing l v catalog later mode
  serving_next v catalog known mode it later next = record {
    shape = it.shape;
    reals = it.reals;
    are_tables = it.are_tables;
    shaped = it.shaped;
    whole = it.whole;
    unbroken = it.unbroken;
    now = it.now;
    kept = it.kept;
    settled = it.settled;
    marked = it.marked;
    next = next;
  }

  -- it is enough to look at a store that is clean
  pub serving_if_clean : (w : View) (catalog : List Index) (later : List NextRowid) (after : Bool) → (IsTrue w.is_open → IsClean w) → (IsClean w → IsServing l w catalog later after) → IsServing l w catalog later after
  serving_if_clean w catalog later after clean so = record {
    shape = λ c. (so c).shape c;
    reals = λ c. (so c).reals c;
    are_tables = λ c. (so c).are_tables c;
    shaped = λ c. (so c).shaped c;
    whole = λ c. (so c).whole c;
    unbroken = λ o. (so (clean o)).unbroken o;
    now = λ o. (so (clean o)).now o;
    kept = λ o. (so (clean o)).kept o;
    settled = λ o out. (so (clean o)).settled o out;
    marked = λ o. (so (clean o)).marked o;
    next = λ o. (so (clean o)).next o;
  }

  -- a transaction that is over, or whose store is shut
  pub serving_over : (v : View) (catalog : List Index) (known : List NextRowid) (mode : Bool) → IsServing l v catalog known mode → (IsTrue v.is_open → mode ≡ false) → IsServing l v catalog known false
  serving_over v catalog known mode it over = record {
    shape = it.shape;
    reals = it.reals;
    are_tables = it.are_tables;
    shaped = it.shaped;
    whole = it.whole;
    unbroken = it.unbroken;
    now = it.now;
    kept = it.kept;
    settled = λ o out. it.settled o (over o);
    marked = it.marked;
    next = it.next;
  }

  -- a store that has just undone its transaction, and is open
  pub serving_fresh : (v0 v : View) (catalog : List Index) → IsRolledBack v0 v → IsTrue v.is_open → HasShapes l catalog v → MayBeCommitted l v.committed → IsClean v → IsServing l v catalog [] false
  serving_fresh v0 v catalog back on fits good clean =
      let kept = back.kept clean in
      let same : v.trees ≡ v.committed = (back.undone on).0 ∙ sym (kept.committed on) in
      record {
        shape = λ c. kept.shape ∙ ap (λ b. if b then v0.committed_shape else v0.shape) on ∙ sym back.committed_shape;
        reals = λ c. kept.reals ∙ ap (λ b. if b then v0.committed_reals else v0.reals) on ∙ sym back.committed_reals;
        are_tables = λ c. fits.are_tables;
        shaped = λ c. fits.shaped;
        whole = λ c. fits.whole;
        unbroken = λ o. (back.undone on).1;
        now = λ o. subst (IsConsistent l) (sym same) good.consistent;
        kept = λ o. good;
        settled = λ o out. (same, kept.marks on);
        marked = λ o. subst (AllByRecursion (IsGoodMark l v)) (sym (kept.marks on)) tt;
        next = λ o. tt;
      }

  module _ (v w : View) (catalog : List Index) (known : List NextRowid) (mode : Bool) (it : IsServing l v catalog known mode) where
    pub serving_ready : map key_of catalog ≡ l.keys → IsClean v → (v.is_open ≡ false → IsTrue v.is_broken) → IsReady v catalog
    serving_ready listed clean broken = record {
      shaped = it.shaped clean;
      whole = it.whole clean;
      indexed = λ sound. indexed_of catalog l.keys listed v.trees (it.now (sound_is_open v broken sound)).keyed;
    }

    pub serving_read : OnlyReads v w → IsServing l w catalog known mode
    serving_read same = rw same (record {
      shape = it.shape;
      reals = it.reals;
      are_tables = it.are_tables;
      shaped = it.shaped;
      whole = it.whole;
      unbroken = it.unbroken;
      now = it.now;
      kept = it.kept;
      settled = it.settled;
      marked = λ o. marks_still v (record v { cursors = w.cursors }) refl refl v.marks (it.marked o);
      next = it.next;
    })

    pub serving_undone : doubt v.is_clean ≤ doubt w.is_clean → (IsTrue w.is_open → IsClean w) → (IsClean w → IsRolledBack v w) → KeepsLists v w → IsServing l w catalog [] false
    serving_undone falls clean undone lists =
        let was = λ (o : IsTrue w.is_open). ((undone (clean o)).kept (clean o)).was_open o in
        let trees = λ (o : IsTrue w.is_open). ((undone (clean o)).undone o).0 in
        let committed = λ (o : IsTrue w.is_open). ((undone (clean o)).kept (clean o)).committed o in
        record {
          shape = λ c. let was = it.shape (omega arith) in lists.shape was ∙ was ∙ sym lists.committed_shape;
          reals = λ c. let was = it.reals (omega arith) in lists.reals was ∙ was ∙ sym lists.committed_reals;
          are_tables = λ c. rw (lists.shape (it.shape (omega arith))) (it.are_tables (omega arith));
          shaped = λ c. rw (lists.shape (it.shape (omega arith))) (it.shaped (omega arith));
          whole = λ c. rw (lists.shape (it.shape (omega arith))) (it.whole (omega arith));
          unbroken = λ o. ((undone (clean o)).undone o).1;
          now = λ o. rw (trees o) (it.kept (was o)).consistent;
          kept = λ o. rw (committed o) (it.kept (was o));
          settled = λ o _. (trees o ∙ sym (committed o), ((undone (clean o)).kept (clean o)).marks o);
          marked = λ o. rw (((undone (clean o)).kept (clean o)).marks o) tt;
          next = λ o. tt;
        }

    pub serving_set : map key_of catalog ≡ l.keys → IsApart l.keys → IsClean v → (table : ℕ) (rows : List Row) (later : List NextRowid) → table ≢ catalog_tree → (AllByRecursion (l.is_row table) (v.trees table) → AllByRecursion (l.is_row table) rows)
        → (IsTrue w.is_open → IsTrue mode) → (IsTrue w.is_open → AreNext w later) → SetsTable catalog v w table rows → IsServing l w catalog later mode
    serving_set listed apart clean table rows later other good inside next sets =
        let same = sets.rest in
        let was = λ (o : IsTrue w.is_open). let e : IsTrue v.is_open = sym (ap (λ (x : View). x.is_open) sets.rest) ∙ o in e in
        record {
          shape = λ c. rw same (it.shape clean);
          reals = λ c. rw same (it.reals clean);
          are_tables = λ c. rw same (it.are_tables clean);
          shaped = λ c. rw same (it.shaped clean);
          whole = λ c. rw same (it.whole clean);
          unbroken = λ o. rw same (it.unbroken (was o));
          now = λ o. consistent_set l v w catalog table rows listed other apart (it.are_tables clean) good sets (it.now (was o));
          kept = λ o. rw same (it.kept (was o));
          settled = λ o out. absurd (true≢false (sym (inside o) ∙ out));
          marked = λ o. subst (AllByRecursion (IsGoodMark l w)) (sym (ap (λ (x : View). x.marks) same))
              (marks_still v w (ap (λ (x : View). x.committed_shape) same) (ap (λ (x : View). x.committed_reals) same) v.marks (it.marked (was o)));
          next = next;
        }

    pub serving_committed : (IsTrue v.is_open → l.is_whole v.trees) → Commits v w → IsServing l w catalog known false
    serving_committed whole done = rw done.is (record {
      shape = λ c. refl;
      reals = λ c. refl;
      are_tables = it.are_tables;
      shaped = it.shaped;
      whole = it.whole;
      unbroken = it.unbroken;
      now = it.now;
      kept = λ o. record { consistent = it.now o; whole = whole o };
      settled = λ o out. (refl, refl);
      marked = λ o. tt;
      next = it.next;
    })

    -- what the transaction sees can be gone back to
    good_now : IsClean v → IsTrue v.is_open → IsGoodMark l v (snapshot v)
    good_now clean on = record { shape = it.shape clean; reals = it.reals clean; consistent = it.now on }

    -- only the marks have changed, and they are good
    serving_with_marks : IsClean v → (marks : List Snapshot) → w ≡ record v { marks = marks } → (IsTrue v.is_open → AllByRecursion (IsGoodMark l v) marks) → (IsTrue w.is_open → IsTrue mode) → IsServing l w catalog known mode
    serving_with_marks clean marks same good inside =
        let was = λ (o : IsTrue w.is_open). let e : IsTrue v.is_open = sym (ap (λ (x : View). x.is_open) same) ∙ o in e in
        record {
          shape = λ c. rw same (it.shape clean);
          reals = λ c. rw same (it.reals clean);
          are_tables = λ c. rw same (it.are_tables clean);
          shaped = λ c. rw same (it.shaped clean);
          whole = λ c. rw same (it.whole clean);
          unbroken = λ o. rw same (it.unbroken (was o));
          now = λ o. rw same (it.now (was o));
          kept = λ o. rw same (it.kept (was o));
          settled = λ o out. absurd (true≢false (sym (inside o) ∙ out));
          marked = λ o. subst (AllByRecursion (IsGoodMark l w)) (sym (ap (λ (x : View). x.marks) same))
              (marks_still v w (ap (λ (x : View). x.committed_shape) same) (ap (λ (x : View). x.committed_reals) same) marks (good (was o)));
          next = λ o. rw same (it.next (was o));
        }

    pub serving_marked : IsClean v → (IsTrue w.is_open → IsTrue mode) → Marks v w → IsServing l w catalog known mode
    serving_marked clean inside done = serving_with_marks clean _ done.is (λ on. all-after (IsGoodMark l v) v.marks (snapshot v) (it.marked on) (good_now clean on)) inside

    pub serving_released : IsClean v → (IsTrue w.is_open → IsTrue mode) → Releases v w → IsServing l w catalog known mode
    serving_released clean inside done = serving_with_marks clean _ done (λ on. all-take (IsGoodMark l v) (length v.marks - 1) v.marks (it.marked on)) inside

    serving_back : IsClean v → (IsTrue w.is_open → IsTrue mode) → GoesBack v w → IsServing l w catalog [] mode
    serving_back clean inside done =
        let same = done.is in
        let on = done.was_open in
        let good = all-at (IsGoodMark l v) v.marks (snapshot v) (length v.marks - 1) (it.marked on) (good_now clean on) in
        let shape : w.shape ≡ v.shape = ap (λ (x : View). x.shape) same ∙ good.shape ∙ sym (it.shape clean) in
        let reals : w.reals ≡ v.reals = ap (λ (x : View). x.reals) same ∙ good.reals ∙ sym (it.reals clean) in
        record {
          shape = λ c. shape ∙ it.shape clean ∙ sym (ap (λ (x : View). x.committed_shape) same);
          reals = λ c. reals ∙ it.reals clean ∙ sym (ap (λ (x : View). x.committed_reals) same);
          are_tables = λ c. rw shape (it.are_tables clean);
          shaped = λ c. rw shape (it.shaped clean);
          whole = λ c. rw shape (it.whole clean);
          unbroken = λ o. ap (λ (x : View). x.is_broken) same;
          now = λ o. subst (IsConsistent l) (sym (ap (λ (x : View). x.trees) same)) good.consistent;
          kept = λ o. subst (MayBeCommitted l) (sym (ap (λ (x : View). x.committed) same)) (it.kept on);
          settled = λ o out. absurd (true≢false (sym (inside o) ∙ out));
          marked = λ o. subst (AllByRecursion (IsGoodMark l w)) (sym (ap (λ (x : View). x.marks) same))
              (marks_still v w (ap (λ (x : View). x.committed_shape) same) (ap (λ (x : View). x.committed_reals) same) v.marks (it.marked on));
          next = λ o. tt;
        }

    serving_knows_none : w ≡ v → IsServing l w catalog [] mode
    serving_knows_none same = rw same (serving_next v catalog known mode it [] (λ o. tt))

    pub serving_back_or_still : IsClean v → (IsTrue w.is_open → IsTrue mode) → GoesBackOrStays v w → IsServing l w catalog [] mode
    serving_back_or_still clean inside done = go v.marks refl
      where
        go : (marks : List Snapshot) → v.marks ≡ marks → IsServing l w catalog [] mode
        go [] none = serving_knows_none (done.none none)
        go (m ∷ marks) some = serving_back clean inside (done.back (λ none. absurd (let e : [] ≡ m ∷ marks = sym none ∙ some in cc)))
