-- A page that is made record by record.
use Rattle.std.proofs.Common.{◌≡◌, ℕ, zero, suc, ◌+◌, ◌-◌, ◌<◌, Bool, true, false, eqb, leb, cond, Option, Some, None, List, [], ◌∷◌, ◌++◌, length, take, drop, append-nil, append_assoc, refl, sym, ap, ◌∙◌, arith, add-zero}
use Rattle.std.specs.List.{filter_map, last_or}
use Rattle.std.specs.Option.{is_some, option_to_list}
use Rattle.std.proofs.lemmas.Bool.{both_ways}
use Rattle.std.proofs.lemmas.Bool.Decides.{nat_tests}
use Rattle.std.proofs.lemmas.List.{length_push, length-append, take-append-drop}
use Rattle.records.specs.declared.query.PageFilter.{PageFilter}
use Rattle.records.specs.declared.filter.Order.{Order}
use Rattle.records.specs.Queries.{Page, page_in, page_order, page_span, time_behind, time_behind_record, most_looked_at}
use Rattle.chain.specs.Pages.{page_on, chosen_of, next_after, behind_last, is_full, all_within, LooksThrough}

-- by cases of a test
pick :
    (test : Bool) (a b c d : ℕ) → (test ≡ true → a ≡ b) → c ≡ d →
    cond test a c ≡ cond test b d
pick true a b c d so other = so refl
pick false a b c d so other = other

both_same : (test : Bool) (a : ℕ) → cond test a a ≡ a
both_same true a = refl
both_same false a = refl

same_page : {B : Type 0} (p q : Page B) → p.entries ≡ q.entries → p.next ≡ q.next → p ≡ q
same_page p q entries next = λ i. record { entries = entries i; next = next i }

suc_test : (a b : ℕ) → eqb (suc a) (suc b) ≡ eqb a b
suc_test a b = grind (arith, nat_tests)

not_empty : (a n : ℕ) → eqb a (suc n) ≡ true → 0 < a
not_empty a n h = grind (arith, nat_tests)

room_is : (limit n : ℕ) → leb limit n ≡ false → limit - n ≡ suc (limit - (n + 1))
room_is limit n h = grind (arith, nat_tests)

no_room : (limit n : ℕ) → leb limit n ≡ true → limit - n ≡ 0
no_room limit n h = grind (arith, nat_tests)

has_room : (limit n : ℕ) → leb limit n ≡ false → eqb 0 (limit - n) ≡ false
has_room limit n h = grind (arith, nat_tests)

not_zero : (n : ℕ) → 0 < n → eqb 0 n ≡ false
not_zero n h = grind (arith, nat_tests)

take_nil : {A : Type 0} (n : ℕ) → ◌≡◌ {A = List A} (take n []) []
take_nil zero = refl
take_nil (suc n) = refl

module _ {A B : Type 0} (time : A → ℕ) (shown : A → Option B) (order : Order) where
  -- behind some records it is all the same from where they came
  any_last :
      (behind other : ℕ) (xs : List A) → 0 < length xs →
      behind_last time order behind xs ≡ behind_last time order other xs
  any_last behind other [] some = omega arith
  any_last behind other (x ∷ xs) some = refl

  shown_next :
      (room left behind : ℕ) (it : A) (rest : List A) (is : is_some (shown it) ≡ true) →
      next_after time order (suc room) (suc left) behind
      (chosen_of shown (suc room) (take (suc left) (it ∷ rest))) (take (suc left) (it ∷ rest))
      ≡ next_after time order room left (time_behind order (time it))
      (chosen_of shown room (take left rest)) (take left rest)
  shown_next room left behind it rest is =
      let chosen = chosen_of shown room (take left rest) in
      rw is
      (λ i. cond (suc_test (length chosen) room i) (behind_last time order (time_behind order (time it)) chosen)
      (cond (suc_test (length (take left rest)) left i)
      (behind_last time order (time_behind order (time it)) (take left rest)) 0))

  other_next :
      (room left behind : ℕ) (it : A) (rest : List A) (is : is_some (shown it) ≡ false) →
      next_after time order (suc room) (suc left) behind
      (chosen_of shown (suc room) (take (suc left) (it ∷ rest))) (take (suc left) (it ∷ rest))
      ≡ next_after time order (suc room) left (time_behind order (time it))
      (chosen_of shown (suc room) (take left rest)) (take left rest)
  other_next room left behind it rest is =
      let chosen = chosen_of shown (suc room) (take left rest) in
      rw is
      (pick (eqb (length chosen) (suc room)) _ _ _ _
      (λ full. any_last behind (time_behind order (time it)) chosen (not_empty (length chosen) room full))
      (λ i. cond (suc_test (length (take left rest)) left i)
      (behind_last time order (time_behind order (time it)) (take left rest)) 0))

  shown_entries :
      (room left : ℕ) (it : A) (b : B) (rest : List A) → shown it ≡ Some b →
      filter_map shown (chosen_of shown (suc room) (take (suc left) (it ∷ rest)))
      ≡ b ∷ filter_map shown (chosen_of shown room (take left rest))
  shown_entries room left it b rest is = rw (is, is) refl

  other_entries :
      (room left : ℕ) (it : A) (rest : List A) → shown it ≡ None →
      filter_map shown (chosen_of shown room (take (suc left) (it ∷ rest)))
      ≡ filter_map shown (chosen_of shown room (take left rest))
  other_entries room left it rest is = rw is refl

module _ {A B : Type 0} (time : A → ℕ) (shown : A → Option B) (asked : PageFilter) where
  -- one record more is looked at
  by_one :
      (found : Option B) (left : ℕ) (it : A) (rest : List A) (old new : Page B) → shown it ≡ found →
      is_full asked old ≡ false → new.entries ≡ old.entries ++ option_to_list found →
      new.next ≡ time_behind (page_order asked) (time it) →
      page_on time shown asked (suc left) (it ∷ rest) old ≡ page_on time shown asked left rest new
  unfolding page_on
  by_one None left it rest old new is not_full entries next =
      let order = page_order asked in
      let same : new.entries ≡ old.entries = entries ∙ append-nil old.entries in
      let room = room_is asked.limit (length old.entries) not_full in
      same_page _ _
      (ap (λ xs. old.entries ++ xs) (other_entries time shown order (asked.limit - length old.entries) left it rest is)
      ∙ ap (λ xs. xs ++ filter_map shown (chosen_of shown (asked.limit - length xs) (take left rest))) (sym same))
      (ap (λ n. next_after time order n (suc left) old.next (chosen_of shown n (take (suc left) (it ∷ rest))) (take (suc left) (it ∷ rest))) room
      ∙ other_next time shown order (asked.limit - (length old.entries + 1)) left old.next it rest (ap is_some is)
      ∙ ap (λ n. next_after time order n left (time_behind order (time it)) (chosen_of shown n (take left rest)) (take left rest)) (sym room)
      ∙ ap (λ xs. next_after time order (asked.limit - length xs) left (time_behind order (time it)) (chosen_of shown (asked.limit - length xs) (take left rest)) (take left rest)) (sym same)
      ∙ ap (λ b. next_after time order (asked.limit - length new.entries) left b (chosen_of shown (asked.limit - length new.entries) (take left rest)) (take left rest)) (sym next))
  by_one (Some b) left it rest old new is not_full entries next =
      let order = page_order asked in
      let longer : length new.entries ≡ length old.entries + 1 = ap length entries ∙ length_push old.entries b in
      let room = room_is asked.limit (length old.entries) not_full in
      let room_now : asked.limit - (length old.entries + 1) ≡ asked.limit - length new.entries = ap (λ n. asked.limit - n) (sym longer) in
      same_page _ _
      (ap (λ n. old.entries ++ filter_map shown (chosen_of shown n (take (suc left) (it ∷ rest)))) room
      ∙ ap (λ xs. old.entries ++ xs) (shown_entries time shown order (asked.limit - (length old.entries + 1)) left it b rest is)
      ∙ sym (append_assoc old.entries (b ∷ []) (filter_map shown (chosen_of shown (asked.limit - (length old.entries + 1)) (take left rest))))
      ∙ ap (λ n. (old.entries ++ b ∷ []) ++ filter_map shown (chosen_of shown n (take left rest))) room_now
      ∙ ap (λ xs. xs ++ filter_map shown (chosen_of shown (asked.limit - length new.entries) (take left rest))) (sym entries))
      (ap (λ n. next_after time order n (suc left) old.next (chosen_of shown n (take (suc left) (it ∷ rest))) (take (suc left) (it ∷ rest))) room
      ∙ shown_next time shown order (asked.limit - (length old.entries + 1)) left old.next it rest (ap is_some is)
      ∙ ap (λ n. next_after time order n left (time_behind order (time it)) (chosen_of shown n (take left rest)) (take left rest)) room_now
      ∙ ap (λ b. next_after time order (asked.limit - length new.entries) left b (chosen_of shown (asked.limit - length new.entries) (take left rest)) (take left rest)) (sym next))

  -- a draft that is full is its page
  pub full_is :
      (left : ℕ) (rest : List A) (draft : Page B) → is_full asked draft ≡ true →
      page_on time shown asked left rest draft ≡ draft
  unfolding page_on
  full_is left rest draft full =
      rw (no_room asked.limit (length draft.entries) full)
      (same_page _ draft (append-nil draft.entries) refl)

  -- and one that may look at no more
  pub none_left :
      (rest : List A) (draft : Page B) → page_on time shown asked 0 rest draft ≡ draft
  unfolding page_on
  none_left rest draft =
      let room = asked.limit - length draft.entries in
      same_page _ draft
      (ap (λ xs. draft.entries ++ filter_map shown xs) (take_nil room) ∙ append-nil draft.entries)
      (ap (λ xs. cond (eqb (length xs) room) (behind_last time (page_order asked) draft.next xs) draft.next) (take_nil room)
      ∙ both_same (eqb 0 room) draft.next)

  -- where no record is left
  pub at_end :
      (left : ℕ) (draft : Page B) → is_full asked draft ≡ false → 0 < left →
      page_on time shown asked left [] draft ≡ record { entries = draft.entries; next = 0 }
  unfolding page_on
  at_end left draft not_full some =
      let room = asked.limit - length draft.entries in
      let room_more : eqb 0 room ≡ false = has_room asked.limit (length draft.entries) not_full in
      rw (take_nil {A = A} left, take_nil {A = A} room) (rw (room_more, not_zero left some) (same_page _ _ (append-nil draft.entries) refl))

  -- behind records with one more at the end
  behind_push :
      (behind : ℕ) (xs : List A) (it : A) →
      behind_last time (page_order asked) behind (xs ++ it ∷ []) ≡ time_behind (page_order asked) (time it)
  behind_push behind [] it = refl
  behind_push behind (x ∷ xs) it = behind_push (time_behind (page_order asked) (time x)) xs it

  -- before any record is looked at
  pub not_begun : (draft : Page B) → LooksThrough time shown asked [] draft draft
  not_begun draft = record {
    goes_on = λ left rest. ap (λ n. page_on time shown asked n rest draft) (add-zero left);
    behind = λ not_full. refl;
  }

  -- one record more
  pub one_on :
      (looked : List A) (it : A) (old mid new : Page B) → LooksThrough time shown asked looked old mid →
      is_full asked mid ≡ false → new.entries ≡ mid.entries ++ option_to_list (shown it) →
      new.next ≡ time_behind (page_order asked) (time it) →
      LooksThrough time shown asked (looked ++ it ∷ []) old new
  one_on looked it old mid new so_far not_full entries next = record {
    goes_on = λ left rest.
        let more : left + length (looked ++ it ∷ []) ≡ suc left + length looked = omega (arith, length_push looked it) in
        ap (λ n. page_on time shown asked n (looked ++ it ∷ [] ++ rest) old) more
        ∙ ap (λ xs. page_on time shown asked (suc left + length looked) xs old) (append_assoc looked (it ∷ []) rest)
        ∙ so_far.goes_on (suc left) (it ∷ rest)
        ∙ by_one (shown it) left it rest mid new refl not_full entries next;
    behind = λ still. next ∙ sym (behind_push old.next looked it);
  }

  -- a full draft has no need to look further
  pub full_on :
      (looked : List A) (count : ℕ) (old new : Page B) → LooksThrough time shown asked (take count looked) old new →
      is_full asked new ≡ true → LooksThrough time shown asked looked old new
  full_on looked count old new so_far full = record {
    goes_on = λ left rest.
        let first = take count looked in
        let later = drop count looked in
        let whole = take-append-drop count looked in
        let parts : left + length looked ≡ left + length later + length first =
        omega (arith, ap length whole, length-append first later) in
        ap (λ n. page_on time shown asked n (looked ++ rest) old) parts
        ∙ ap (λ xs. page_on time shown asked (left + length later + length first) (xs ++ rest) old) (sym whole)
        ∙ ap (λ xs. page_on time shown asked (left + length later + length first) xs old) (append_assoc first later rest)
        ∙ so_far.goes_on (left + length later) (later ++ rest)
        ∙ full_is (left + length later) (later ++ rest) new full
        ∙ sym (full_is left rest new full);
    behind = λ not_full. absurd (both_ways (is_full asked new) not_full full);
  }

  -- behind the last of some records, by the last one
  last_is :
      (last : Option A) (xs : List A) →
      time_behind_record time (page_order asked) (last_or last xs)
      ≡ behind_last time (page_order asked) (time_behind_record time (page_order asked) last) xs
  last_is last [] = refl
  last_is last (x ∷ xs) = last_is (Some x) xs

  -- the page comes of an empty draft
  pub from_none :
      (records : List A) →
      page_in time shown asked records
      ≡ page_on time shown asked most_looked_at (all_within time (page_span asked) records)
      (record { entries = []; next = 0 })
  unfolding page_on
  from_none records =
      let looked = take most_looked_at (all_within time (page_span asked) records) in
      let whole : asked.limit - 0 ≡ asked.limit = omega arith in
      let chosen = chosen_of shown asked.limit looked in
      same_page _ _ (ap (λ n. filter_map shown (chosen_of shown n looked)) (sym whole))
      ((λ i. cond (eqb (length chosen) asked.limit) (last_is None chosen i) (cond (eqb (length looked) most_looked_at) (last_is None looked i) 0))
      ∙ ap (λ n. next_after time (page_order asked) n most_looked_at 0 (chosen_of shown n looked) looked) (sym whole))
