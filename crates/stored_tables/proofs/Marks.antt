-- What the mark of a batch does to it.
use Rattle.std.proofs.Common.{◌≡◌, ℤ, inl, inr, List, [], ◌∷◌, ◌++◌, None, Result, Ok, Err, OnOk, OnErr, IsSome, IsTrue, true, false, refl, sym, ap, subst, subst₂, ◌∙◌}
use Rattle.records.specs.declared.unavailable.Unavailable.{Unavailable}
use Rattle.chain.specs.Tables.{State as Meant, Leaves, marking, marked_or, at_mark, unmarked}
use Rattle.sqlite.specs.Effect.{Database}
use Rattle.sqlite.specs.State.{State, Savepoint, HasCleanDisk}
use Rattle.ledger_sql.specs.Frames.{Live, Follows}
use Rattle.ledger_sql.specs.Stages.{the_mark, IsMarked, HasMarked, HasGoneBack, HasReleased}
use Rattle.stored_tables.specs.InBatch.{HoldsOwn, KeepsRest, IsInBatchOf, AreMarks, IsInOwnBatch, shown, marked_in}
use Rattle.stored_tables.specs.BatchLaws.{clean_before, live_before, rest_itself, calls_then}
use Rattle.stored_tables.specs.MachineOf.{machine_of}
use Rattle.stored_tables.specs.Meaning.{batch_meaning}
use Rattle.stored_tables.proofs.Keeping.{shown_is}

-- no machine is marked, so there is no mark
no_marks : (tenant : ℤ) (marks : List Savepoint) → marked_in tenant marks ≡ None → marks ≡ []
no_marks tenant [] none = refl
no_marks tenant (mark ∷ marks) none = absurd (cc)

-- a machine is marked, so there is one
one_mark : (tenant : ℤ) (now : Database) (marks : List Savepoint) → AreMarks tenant now marks → IsSome (marked_in tenant marks)
    → (db : Database) × (marks ≡ the_mark db ∷ []) × HoldsOwn tenant db × KeepsRest tenant now db
one_mark tenant now marks (inl none) some = absurd (let e : false ≡ true = subst (λ ms. IsSome (marked_in tenant ms)) none some in cc)
one_mark tenant now marks (inr one) some = one

module _ (tenant : ℤ) (old new : State) where
  only_mark : (shown tenant old).marked ≡ None → HasMarked old new → new.marks ≡ the_mark old.now ∷ []
  unfolding shown
  only_mark none has = has.marks ∙ ap (λ ms. ms ++ the_mark old.now ∷ []) (no_marks tenant old.marks none)

  marked_state : (shown tenant old).marked ≡ None → HasMarked old new → shown tenant new ≡ marking (shown tenant old)
  unfolding shown
  marked_state none has =
      shown_is tenant new _ old.committed (the_mark old.now ∷ []) (ap (λ (db : Database). machine_of tenant db.trees) has.now) has.committed (only_mark none has)

  marked_batch : (shown tenant old).marked ≡ None → IsInBatchOf tenant old → HasMarked old new → IsInBatchOf tenant new
  marked_batch none was has = record {
    is_open = has.is_open;
    mode = has.mode;
    now = subst (HoldsOwn tenant) (sym has.now) was.now;
    marks = inr (old.now, only_mark none has, was.now, subst (λ (db : Database). KeepsRest tenant db old.now) (sym has.now) (rest_itself tenant old.now));
  }

  -- the mark of a batch in which a machine is marked
  pub mark_of : IsInBatchOf tenant old → IsSome (shown tenant old).marked → (db : Database) × (old.marks ≡ the_mark db ∷ []) × HoldsOwn tenant db × KeepsRest tenant old.now db
  unfolding shown
  mark_of was some = one_mark tenant old.now old.marks was.marks some

  back_state : (db : Database) → old.marks ≡ the_mark db ∷ [] → HasGoneBack old new
      → shown tenant new ≡ record (shown tenant old) { now = marked_or (shown tenant old).now (shown tenant old).marked }
  unfolding shown
  back_state db marks has =
      let there : machine_of tenant new.now.trees ≡ marked_or (machine_of tenant old.now.trees) (marked_in tenant old.marks) =
      ap (λ (d : Database). machine_of tenant d.trees) (has.back [] db marks) ∙ sym (ap (λ ms. marked_or (machine_of tenant old.now.trees) (marked_in tenant ms)) marks) in
      shown_is tenant new _ old.committed old.marks there has.committed has.marks

  back_batch : (db : Database) → old.marks ≡ the_mark db ∷ [] → HoldsOwn tenant db → HasGoneBack old new → IsInBatchOf tenant new
  back_batch db marks its has = record {
    is_open = has.is_open;
    mode = has.mode;
    now = subst (HoldsOwn tenant) (sym (has.back [] db marks)) its;
    marks = subst₂ (AreMarks tenant) (sym (has.back [] db marks)) (sym has.marks) (inr (db, marks, its, rest_itself tenant db));
  }

  released_state : (db : Database) → old.marks ≡ the_mark db ∷ [] → HasReleased old new → shown tenant new ≡ unmarked (shown tenant old)
  unfolding shown
  released_state db marks has = shown_is tenant new _ old.committed [] (ap (λ (d : Database). machine_of tenant d.trees) has.now) has.committed (has.marks [] db marks)

  released_batch : (db : Database) → old.marks ≡ the_mark db ∷ [] → IsInBatchOf tenant old → HasReleased old new → IsInBatchOf tenant new
  released_batch db marks was has = record {
    is_open = has.is_open;
    mode = has.mode;
    now = subst (HoldsOwn tenant) (sym has.now) was.now;
    marks = inl (has.marks [] db marks);
  }

module _ {T : Type 0} (state : T → State) (tenant : ℤ) (old : T) (usable : IsInOwnBatch tenant (state old)) where
  -- in a batch a disk that was honest is live
  pub live_now : HasCleanDisk (state old) → Live (state old)
  live_now clean = (clean, (usable clean).is_open)

  pub inside : HasCleanDisk (state old) → IsTrue (state old).in_transaction
  inside clean = (usable clean).mode

  pub has_mark : (Live (state old) → IsSome (shown tenant (state old)).marked) → HasCleanDisk (state old) → IsMarked (state old)
  has_mark some clean =
      let mark = mark_of tenant (state old) (state old) (usable clean) (some (live_now clean)) in
      ([], mark.0, record { mode = inside clean; marks = mark.1 })

  module _ {X : Type 0} (x : X) (new : T) (follows : Follows (state old) (state new)) where
    was_clean : HasCleanDisk (state new) → HasCleanDisk (state old)
    was_clean clean = clean_before _ _ follows clean

    stays : (state new).now ≡ (state old).now → KeepsRest tenant (state old).now (state new).now
    stays same = subst (KeepsRest tenant (state old).now) (sym same) (rest_itself tenant (state old).now)

    pub marks : (Live (state old) → (shown tenant (state old)).marked ≡ None) → (HasCleanDisk (state new) → HasMarked (state old) (state new))
        → Leaves {S = T} {X = X} (batch_meaning state tenant) old new (Ok x) marking
    marks none has = record {
      state = λ live. marked_state tenant (state old) (state new) (none (live_now (was_clean live.0))) (has live.0);
      usable = λ clean. marked_batch tenant (state old) (state new) (none (live_now (was_clean clean))) (usable (was_clean clean)) (has clean);
      undone = λ live. tt;
      follows = record { calls = follows; inside = λ live mode. (inside (was_clean live.0), stays (has live.0).now) };
    }

    module _ (some : Live (state old) → IsSome (shown tenant (state old)).marked) where
      the_one : HasCleanDisk (state new) → (db : Database) × ((state old).marks ≡ the_mark db ∷ []) × HoldsOwn tenant db × KeepsRest tenant (state old).now db
      the_one clean = mark_of tenant (state old) (state old) (usable (was_clean clean)) (some (live_now (was_clean clean)))

      pub goes_back : (HasCleanDisk (state new) → HasGoneBack (state old) (state new))
          → Leaves {S = T} {X = X} (batch_meaning state tenant) old new (Ok x) (λ s. record s { now = marked_or s.now s.marked })
      goes_back has = record {
        state = λ live. let mark = the_one live.0 in back_state tenant (state old) (state new) mark.0 mark.1 (has live.0);
        usable = λ clean. let mark = the_one clean in back_batch tenant (state old) (state new) mark.0 mark.1 mark.2 (has clean);
        undone = λ live. tt;
        follows = record { calls = follows; inside = λ live mode. let mark = the_one live.0 in (inside (was_clean live.0), subst (KeepsRest tenant (state old).now) (sym ((has live.0).back [] mark.0 mark.1)) mark.3) };
      }

      pub releases : (HasCleanDisk (state new) → HasReleased (state old) (state new))
          → Leaves {S = T} {X = X} (batch_meaning state tenant) old new (Ok x) unmarked
      releases has = record {
        state = λ live. let mark = the_one live.0 in released_state tenant (state old) (state new) mark.0 mark.1 (has live.0);
        usable = λ clean. let mark = the_one clean in released_batch tenant (state old) (state new) mark.0 mark.1 (usable (was_clean clean)) (has clean);
        undone = λ live. tt;
        follows = record { calls = follows; inside = λ live mode. (inside (was_clean live.0), stays (has live.0).now) };
      }

-- a call that has gone back to the mark, which stays
abbrev pub GoesBack : {T X : Type 0} → (T → State) → ℤ → T → T → Result X Unavailable → Type 0
GoesBack state tenant old new result = Leaves (batch_meaning state tenant) old new result (λ s. record s { now = marked_or s.now s.marked })

module _ {T X : Type 0} (state : T → State) (tenant : ℤ) (a b : T) (given : Result X Unavailable) (back : GoesBack state tenant a b given) where
  -- where it failed, so has the whole
  pub back_failed : {Y : Type 0} (why : Unavailable) (result : Result Y Unavailable) → given ≡ Err why → result ≡ Err why → Leaves (batch_meaning state tenant) a b result at_mark
  back_failed why (Ok y) fails failed = absurd (cc)
  back_failed why (Err e) fails failed = record {
    state = λ live. tt;
    usable = tt;
    undone = λ live. subst (λ (r : Result X Unavailable). OnErr r ((shown tenant (state b)).now ≡ (shown tenant (state a)).begun)) fails (back.undone live);
    follows = back.follows;
  }

  module _ (x : X) (is : given ≡ Ok x) where
    -- where it did not, calls are allowed, and the mark is there
    pub back_usable : IsInOwnBatch tenant (state b)
    back_usable = subst (λ (r : Result X Unavailable). OnOk r (IsInOwnBatch tenant (state b))) is back.usable

    back_shown : Live (state b) → shown tenant (state b) ≡ record (shown tenant (state a)) { now = marked_or (shown tenant (state a)).now (shown tenant (state a)).marked }
    back_shown live = subst (λ (r : Result X Unavailable). OnOk r (shown tenant (state b) ≡ record (shown tenant (state a)) { now = marked_or (shown tenant (state a)).now (shown tenant (state a)).marked })) is (back.state live)

    pub back_marked : (Live (state a) → IsSome (shown tenant (state a)).marked) → Live (state b) → IsSome (shown tenant (state b)).marked
    back_marked some live = subst IsSome (sym (ap (λ (s : Meant). s.marked) (back_shown live))) (some (live_before _ _ back.follows.calls live))

    -- and the mark is closed behind it
    pub back_closed : {Y : Type 0} (c : T) (result : Result Y Unavailable) → Leaves (batch_meaning state tenant) b c result unmarked → Leaves (batch_meaning state tenant) a c result at_mark
    back_closed c (Ok y) closed = record {
      state = λ live. closed.state live ∙ ap unmarked (back_shown (live_before _ _ closed.follows.calls live));
      usable = closed.usable;
      undone = λ live. tt;
      follows = calls_then tenant _ _ _ back.follows closed.follows;
    }
    back_closed c (Err e) closed = record {
      state = λ live. tt;
      usable = tt;
      undone = λ live. closed.undone live ∙ ap (λ (s : Meant). s.begun) (back_shown (live_before _ _ closed.follows.calls live));
      follows = calls_then tenant _ _ _ back.follows closed.follows;
    }
