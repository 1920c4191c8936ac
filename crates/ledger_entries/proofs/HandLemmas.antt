-- Entries that are handed to a sink, one after the other.
use Rattle.std.proofs.Common.{◌≡◌, ◌⊎◌, ℕ, suc, zero, ◌+◌, ◌<◌, ◌≤◌, Bool, true, false, not, List, [], ◌∷◌, ◌++◌, length, map, take, drop, get_or, Ok, Err, Result, OnErr, refl, sym, ap, subst, ◌∙◌, arith, add-one, IsPermutation, inr, true≢false}
use Rattle.std.specs.Prelude.{IsErr}
use Rattle.std.specs.List.{flat_map}
use Rattle.std.proofs.lemmas.List.{append-nil, length-append, length-map, length-take, map-append, take-append-drop, take_all}
use Rattle.std.proofs.lemmas.List.Sorted.{IsPermutation-refl}
use Rattle.records.specs.Streams.{TakesRows}
use Rattle.sqlite_value.specs.Order.{Row}
use Rattle.ledger_sql.specs.declared.entry_cells.EntryCells.{EntryCells}
use Rattle.ledger_sql.specs.Entries.{entry_values}
use Rattle.ledger_entries.specs.Handing.{AreJoined, HandsJoined, HandsList}
use Rattle.ledger_entries.proofs.JoinLemmas.{joined_one, joined_part}

pub takes_then : {K : Type 0} (takes : K → EntryCells → K → Type 0) (old mid new : K) (first more : List EntryCells) → TakesRows takes old first mid → TakesRows takes mid more new → TakesRows takes old (first ++ more) new
takes_then takes old mid new [] more same took = subst (λ k. TakesRows takes k more new) (sym same) took
takes_then takes old mid new (x ∷ first) more (next, one, rest) took = (next, one, takes_then takes next mid new first more rest took)

-- the first elements, and one more
pub one_more : {A B : Type 0} (f : A → B) (xs : List A) (i : ℕ) (d : A) → i < length xs → take (suc i) (map f xs) ≡ take i (map f xs) ++ f (get_or xs i d) ∷ []
one_more f [] i d lt = absurd (omega arith)
one_more f (y ∷ ys) zero d lt = refl
one_more f (y ∷ ys) (suc i) d lt = ap (λ l. f y ∷ l) (one_more f ys i d (omega arith))

-- an element, those before it and those after it
pub split_at : {A B : Type 0} (f : A → B) (xs : List A) (i : ℕ) (d : A) → i < length xs → map f xs ≡ take i (map f xs) ++ (f (get_or xs i d) ∷ drop (suc i) (map f xs))
split_at f [] i d lt = absurd (omega arith)
split_at f (y ∷ ys) zero d lt = refl
split_at f (y ∷ ys) (suc i) d lt = ap (λ l. f y ∷ l) (split_at f ys i d (omega arith))

pub full_then : (more full : Bool) → more ≡ not full → more ≡ false → full ≡ true
full_then more true is stop = refl
full_then more false is stop = absurd (true≢false (sym is ∙ stop))

pub wants_then : (more full : Bool) → more ≡ not full → more ≡ true → full ≡ false
wants_then more false is goes = refl
wants_then more true is goes = absurd (true≢false (sym goes ∙ is))

module _ {K : Type 0} (takes : K → EntryCells → K → Type 0) (is_full : K → Bool) where
  -- the first of some entries were handed out
  module _ {A : Type 0} (f : A → EntryCells) (xs : List A) (had left : ℕ) (old new : K) (i : ℕ) (within : i ≤ length xs) (taken : TakesRows takes old (take i (map f xs)) new) (few : i + left ≡ had) where
    counted : length (take i (map f xs)) + left ≡ had
    counted = omega (arith, within, few, length-take i (map f xs), length-map xs f)

    pub hands_some : (is_full new ≡ true) ⊎ (left ≡ 0) → HandsList takes is_full (map f xs) had left old new false
    hands_some stops = record {
      handed = take i (map f xs);
      rest = drop i (map f xs);
      all = sym (take-append-drop i (map f xs));
      taken = taken;
      few = counted;
      goes = λ e. absurd (true≢false (sym e));
      wants = λ e. absurd (true≢false (sym e));
      stops = λ _. stops;
    }

    pub hands_all : length xs ≤ i → is_full new ≡ false → HandsList takes is_full (map f xs) had left old new true
    hands_all whole wants = record {
      handed = take i (map f xs);
      rest = [];
      all = sym (append-nil (take i (map f xs)) ∙ take_all i (map f xs) (omega (arith, whole, length-map xs f)));
      taken = taken;
      few = counted;
      goes = λ _. refl;
      wants = λ _. wants;
      stops = λ e. absurd (true≢false e);
    }

  -- one more of them
  pub takes_next : {A : Type 0} (f : A → EntryCells) (xs : List A) (old mid new : K) (i : ℕ) (d : A) → i < length xs → TakesRows takes old (take i (map f xs)) mid → takes mid (f (get_or xs i d)) new → TakesRows takes old (take (i + 1) (map f xs)) new
  takes_next f xs old mid new i d lt taken took =
      subst (λ es. TakesRows takes old es new) (sym (ap (λ n. take n (map f xs)) (add-one i) ∙ one_more f xs i d lt)) (takes_then takes old mid new (take i (map f xs)) (f (get_or xs i d) ∷ []) taken (new, took, refl))

  module _ (IsHonest : Type 0) (join : Row → List Row) where
    module _ (row : Row) (had : ℕ) (old : K) where
      -- nothing was, since no more are wanted
      pub none_wanted : {E : Type 0} → had ≡ 0 → HandsJoined {E = E} takes is_full IsHonest join (row ∷ []) had had old old (Ok false)
      none_wanted none = record {
        handed = [];
        taken = refl;
        few = omega arith;
        first = λ _. (join row, joined_one join row (join row) (IsPermutation-refl (join row)));
        goes = λ _ e. absurd (true≢false (sym e));
        wants = λ e. absurd (true≢false (sym e));
        stops = λ _. inr none;
        failed = tt;
      }

      pub none_handed : {E : Type 0} (left : ℕ) (r : Result Bool E) → left ≡ had → IsErr r → is_full old ≡ false → HandsJoined takes is_full IsHonest join (row ∷ []) had left old old r
      none_handed left (Ok more) kept failed wants = absurd (true≢false (sym failed))
      none_handed left (Err e) kept failed wants = record {
        handed = [];
        taken = refl;
        few = omega (arith, kept);
        first = λ _. (join row, joined_one join row (join row) (IsPermutation-refl (join row)));
        goes = λ _. tt;
        wants = tt;
        stops = tt;
        failed = wants;
      }

      -- the entries of one row were, as they were read
      pub hands_row : {E : Type 0} (entries : List EntryCells) (mid left : ℕ) (new : K) (more : Bool) → mid ≡ had → (IsHonest → IsPermutation (join row) (map entry_values entries)) → HandsList takes is_full entries mid left old new more
          → HandsJoined {E = E} takes is_full IsHonest join (row ∷ []) had left old new (Ok more)
      hands_row entries mid left new more kept same it = record {
        handed = it.handed;
        taken = it.taken;
        few = it.few ∙ kept;
        first = λ honest. (
          map entry_values it.rest,
          joined_one join row _ (subst (IsPermutation (join row)) (ap (map entry_values) it.all ∙ map-append entry_values it.handed it.rest) (same honest)),
        );
        goes = λ honest e.
            joined_one join row _ (subst (IsPermutation (join row)) (ap (map entry_values) (it.all ∙ ap (λ xs. it.handed ++ xs) (it.goes e) ∙ append-nil it.handed)) (same honest));
        wants = it.wants;
        stops = it.stops;
        failed = tt;
      }

    -- the entries of some rows were, and then of one more
    module _ (rows done : List Row) (row : Row) (later : List Row) (is : rows ≡ done ++ (row ∷ later)) (had mid left : ℕ) (old half new : K) (handed : List EntryCells) (taken : TakesRows takes old handed half)
        (few : length handed + mid ≡ had) (joins : IsHonest → AreJoined join done (map entry_values handed)) where
      module _ {F : Type 0} (r : Result Bool F) (it : HandsJoined takes is_full IsHonest join (row ∷ []) mid left half new r) where
        all_taken : TakesRows takes old (handed ++ it.handed) new
        all_taken = takes_then takes old half new handed it.handed taken it.taken

        all_few : length (handed ++ it.handed) + left ≡ had
        all_few = omega (arith, few, it.few, length-append handed it.handed)

        all_first : IsHonest → (rest : List Row) × AreJoined join rows (map entry_values (handed ++ it.handed) ++ rest)
        all_first honest =
            let one = it.first honest in
            let rest = one.0 ++ flat_map join later in (
              rest,
              subst (λ xs. AreJoined join xs (map entry_values (handed ++ it.handed) ++ rest)) (sym is)
                  (subst (λ xs. AreJoined join (done ++ (row ∷ later)) (xs ++ rest)) (sym (map-append entry_values handed it.handed))
                  (joined_part join done (row ∷ []) later (map entry_values handed) (map entry_values it.handed) one.0 (joins honest) one.1)),
            )

        pub hands_on_failed : {E : Type 0} (s : Result Bool E) → IsErr s → IsErr r → HandsJoined takes is_full IsHonest join rows had left old new s
        hands_on_failed (Ok more) failed was = absurd (true≢false (sym failed))
        hands_on_failed (Err e) failed was = record {
          handed = handed ++ it.handed;
          taken = all_taken;
          few = all_few;
          first = all_first;
          goes = λ _. tt;
          wants = tt;
          stops = tt;
          failed = failed_so r was it.failed;
        }
          where
            failed_so : (r : Result Bool F) → IsErr r → OnErr r (is_full new ≡ false) → is_full new ≡ false
            failed_so (Ok more) was wants = absurd (true≢false (sym was))
            failed_so (Err e) was wants = wants

      pub hands_on_stopped : {E F : Type 0} (more : Bool) → HandsJoined {E = F} takes is_full IsHonest join (row ∷ []) mid left half new (Ok more) → more ≡ false → HandsJoined {E = E} takes is_full IsHonest join rows had left old new (Ok false)
      hands_on_stopped more it stop = record {
        handed = handed ++ it.handed;
        taken = all_taken (Ok more) it;
        few = all_few (Ok more) it;
        first = all_first (Ok more) it;
        goes = λ _ e. absurd (true≢false (sym e));
        wants = λ e. absurd (true≢false (sym e));
        stops = λ _. it.stops stop;
        failed = tt;
      }
