-- The names of a value's fields. Members go in one after another, so the first of the unknown names
-- is the least of those that were sent.
use Rattle.std.proofs.Common.{◌≡◌, ℕ, Bool, List, [], ◌∷◌, Some, None, Less, Equal, Greater, Ordering, refl}
use Rattle.std.proofs.Common.{◌+◌, ◌<◌, ◌≤◌, Bor, drop, get_or, length, sym, ap, ◌∙◌, subst}
use Rattle.std.specs.Prelude.{◌&&◌, true, false, not, cond, Option, is_none, ⊤}
use Rattle.std.specs.Cmp.Lexicographic.{slice_cmp}
use Rattle.std.specs.List.{find, list_all}
use Rattle.std.specs.Ordering.{is_eq, match_ordering, nat_cmp, ordering_reverse}
use Rattle.std.proofs.lemmas.Cmp.{nat_list_cmp_total}
use Rattle.std.proofs.lemmas.Map.Text.{is_eq-slice_cmp}
use Rattle.std.proofs.lemmas.Slice.Eq.{bytes_eq-Decides}
use Rattle.serde_json.specs.Data.{Data, null, boolean, number, string, array, object, Members}
use Rattle.serde_json.specs.Data.{member, no_members, put}
use Rattle.serde_json.specs.Find.{as_object}
use Rattle.wire.specs.Fields.{names_of, is_among, has_only}
use Rattle.wire.specs.Misfits.{first_stranger}
use Rattle.std.proofs.lemmas.List.{at_drop_all, drop_more}
use Rattle.json.specs.Value.{members_view}
use Rattle.json.specs.declared.value.Value.{Value}
use Rattle.wire.specs.Trees.{least, members_data, members_of, tree_data}

pub has_only-object : (known : List (List ℕ)) (d : Data) (ms : Members) → as_object d ≡ Some ms
    → has_only known d ≡ list_all (is_among known) (names_of ms)
has_only-object known null ms e = cc
has_only-object known (boolean b) ms e = cc
has_only-object known (number n) ms e = cc
has_only-object known (string s) ms e = cc
has_only-object known (array ds) ms e = cc
has_only-object known (object ns) ms e =
    let same : ns ≡ ms = cc in ap (λ rest. list_all (is_among known) (names_of rest)) same

none_beside : {A : Type 0} (test all : Bool) (x : A) (rest : Option A)
    → is_none rest ≡ all → is_none (cond (not test) (Some x) rest) ≡ (test && all)
none_beside true all x rest e = e
none_beside false all x rest e = refl

pub is_none-find : {A : Type 0} (test : A → Bool) (xs : List A)
    → is_none (find (λ x. not (test x)) xs) ≡ list_all test xs
is_none-find test [] = refl
is_none-find test (x ∷ xs) =
    none_beside (test x) (list_all test xs) x _ (is_none-find test xs)

pub first_stranger-object : (known : List (List ℕ)) (d : Data) (ms : Members)
    → as_object d ≡ Some ms
    → first_stranger known d ≡ find (λ name. not (is_among known name)) (names_of ms)
first_stranger-object known d ms e = rw e

-- members whose names rise

abbrev Above : List ℕ → Members → Type 0
Above k no_members = ⊤
Above k (member l d ms) = (slice_cmp nat_cmp k l ≡ Less) × Above k ms

abbrev pub Rise : Members → Type 0
Rise no_members = ⊤
Rise (member l d ms) = Above l ms × Rise ms

above_both : (k l : List ℕ) (ms : Members) → slice_cmp nat_cmp k l ≡ Less → Above l ms → Above k ms
above_both k l no_members less h = tt
above_both k l (member m d ms) less h =
    (nat_list_cmp_total.trans k l m less h.0, above_both k l ms less h.1)

above_put_at : (o : Ordering) (m k l : List ℕ) (d e : Data) (ms : Members) → slice_cmp nat_cmp m k ≡ Less
    → slice_cmp nat_cmp m l ≡ Less → Above m ms → Above m (put k d ms)
    → Above m (match_ordering o (member k d (member l e ms)) (member l d ms) (member l e (put k d ms)))
above_put_at Less m k l d e ms here there above later = (here, (there, above))
above_put_at Equal m k l d e ms here there above later = (there, above)
above_put_at Greater m k l d e ms here there above later = (there, later)

above_put : (m k : List ℕ) (d : Data) (ms : Members) → slice_cmp nat_cmp m k ≡ Less → Above m ms
    → Above m (put k d ms)
above_put m k d no_members less h = (less, tt)
above_put m k d (member l e ms) less h =
    above_put_at (slice_cmp nat_cmp k l) m k l d e ms less h.0 h.1 (above_put m k d ms less h.1)

rise_put_at : (o : Ordering) (k l : List ℕ) (d e : Data) (ms : Members) → slice_cmp nat_cmp k l ≡ o
    → Above l ms → Rise ms → Rise (put k d ms)
    → Rise (match_ordering o (member k d (member l e ms)) (member l d ms) (member l e (put k d ms)))
rise_put_at Less k l d e ms is above rise later = ((is, above_both k l ms is above), (above, rise))
rise_put_at Equal k l d e ms is above rise later = (above, rise)
rise_put_at Greater k l d e ms is above rise later =
    (above_put l k d ms (nat_list_cmp_total.antisymm l k ∙ ap ordering_reverse is) above, later)

pub rise_put : (k : List ℕ) (d : Data) (ms : Members) → Rise ms → Rise (put k d ms)
rise_put k d no_members h = (tt, tt)
rise_put k d (member l e ms) h = rise_put_at _ k l d e ms refl h.0 h.1 (rise_put k d ms h.1)

-- the first of the names that pass a test, once one more is put

same_either_way : (o : Ordering) (x : List ℕ) → match_ordering o x x x ≡ x
same_either_way Less x = refl
same_either_way Equal x = refl
same_either_way Greater x = refl

put_before : (b : Bool) (k : List ℕ) (found : Option (List ℕ))
    → ((m : List ℕ) → found ≡ Some m → slice_cmp nat_cmp k m ≡ Less)
    → cond b (Some k) found ≡ cond b (Some (least found k)) found
put_before true k None below = refl
put_before true k (Some m) below =
    ap (λ name. Some name) (sym (ap (λ o. match_ordering o k m m) (below m refl)))
put_before false k found below = refl

put_same : (b : Bool) (l : List ℕ) (found : Option (List ℕ))
    → cond b (Some l) found ≡ cond b (Some (least (cond b (Some l) found) l)) (cond b (Some l) found)
put_same true l found = ap (λ name. Some name) (sym (same_either_way (slice_cmp nat_cmp l l) l))
put_same false l found = refl

put_after : (a b : Bool) (k l : List ℕ) (found : Option (List ℕ)) → slice_cmp nat_cmp k l ≡ Greater
    → cond a (Some l) (cond b (Some (least found k)) found)
    ≡ cond b (Some (least (cond a (Some l) found) k)) (cond a (Some l) found)
put_after true true k l found is = ap (λ name. Some name) (sym (ap (λ o. match_ordering o k l l) is))
put_after true false k l found is = refl
put_after false b k l found is = refl

module _ (test : List ℕ → Bool) where
  above_found_at : (b : Bool) (k l m : List ℕ) (rest : Option (List ℕ)) → slice_cmp nat_cmp k l ≡ Less
      → (rest ≡ Some m → slice_cmp nat_cmp k m ≡ Less) → cond b (Some l) rest ≡ Some m
      → slice_cmp nat_cmp k m ≡ Less
  above_found_at true k l m rest less later is =
      let same : l ≡ m = cc in subst (λ x. slice_cmp nat_cmp k x ≡ Less) same less
  above_found_at false k l m rest less later is = later is

  above_found : (k m : List ℕ) (ms : Members) → Above k ms → find test (names_of ms) ≡ Some m
      → slice_cmp nat_cmp k m ≡ Less
  above_found k m no_members h is = cc
  above_found k m (member l d ms) h is =
      above_found_at (test l) k l m (find test (names_of ms)) h.0 (above_found k m ms h.1) is

  put_at : (o : Ordering) (k l : List ℕ) (d e : Data) (ms : Members) → slice_cmp nat_cmp k l ≡ o
      → Above l ms
      → find test (names_of (put k d ms))
      ≡ cond (test k) (Some (least (find test (names_of ms)) k)) (find test (names_of ms))
      → find test (names_of (match_ordering o (member k d (member l e ms)) (member l d ms) (member l e (put k d ms))))
      ≡ cond (test k) (Some (least (find test (names_of (member l e ms))) k)) (find test (names_of (member l e ms)))
  put_at Less k l d e ms is above later =
      put_before (test k) k (find test (names_of (member l e ms)))
      (λ m found. above_found k m (member l e ms) (is, above_both k l ms is above) found)
  put_at Equal k l d e ms is above later =
      let same : k ≡ l = (bytes_eq-Decides k l).0 (sym (is_eq-slice_cmp k l) ∙ ap is_eq is) in
      put_same (test l) l (find test (names_of ms))
      ∙ ap (λ name. cond (test name) (Some (least (find test (names_of (member l e ms))) name)) (find test (names_of (member l e ms)))) (sym same)
  put_at Greater k l d e ms is above later =
      ap (λ rest. cond (test l) (Some l) rest) later
      ∙ put_after (test l) (test k) k l (find test (names_of ms)) is

  pub find-put : (k : List ℕ) (d : Data) (ms : Members) → Rise ms
      → find test (names_of (put k d ms))
      ≡ cond (test k) (Some (least (find test (names_of ms)) k)) (find test (names_of ms))
  find-put k d no_members h = refl
  find-put k d (member l e ms) h = put_at _ k l d e ms refl h.0 (find-put k d ms h.1)

  -- of the members up to a place the first name that passes is known

  abbrev pub KnowsFirst : {A : Type 0} → List (Bor (List ℕ) × Value A) → ℕ → Option (List ℕ) → Type 0
  KnowsFirst ms place first =
      (found : Members) × Rise found
      × (members_of (members_view (drop place ms)) found ≡ members_data ms)
      × (first ≡ find test (names_of found))

  pub knows_more : {A : Type 0} (ms : List (Bor (List ℕ) × Value A)) (place : ℕ)
      (m : Bor (List ℕ) × Value A) (first next : Option (List ℕ)) → place < length ms
      → m ≡ get_or ms place m → KnowsFirst ms place first
      → next ≡ cond (test m.0.now) (Some (least first m.0.now)) first
      → KnowsFirst ms (place + 1) next
  knows_more ms place m first next within is (found, rise, rest, known) step = (
    put m.0.now (tree_data m.1) found,
    rise_put m.0.now (tree_data m.1) found rise,
    sym (ap (λ l. members_of (members_view l) found)
        (drop_more ms place m within ∙ ap (λ x. x ∷ drop (place + 1) ms) (sym is))) ∙ rest,
    step ∙ ap (λ f. cond (test m.0.now) (Some (least f m.0.now)) f) known
        ∙ sym (find-put m.0.now (tree_data m.1) found rise),
  )

  pub knows_all : {A : Type 0} (ms : List (Bor (List ℕ) × Value A)) (place : ℕ)
      (first : Option (List ℕ)) → length ms ≤ place → KnowsFirst ms place first
      → first ≡ find test (names_of (members_data ms))
  knows_all ms place first over (found, rise, rest, known) =
      known ∙ ap (λ ds. find test (names_of ds))
      (sym (at_drop_all (λ l. members_of (members_view l) found) ms place over) ∙ rest)
