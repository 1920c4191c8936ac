-- The records of a span of time: those behind the first of them are the records of the rest of it.
use Rattle.std.proofs.Common.{◌≡◌, ℕ, zero, suc, ◌<◌, ◌≤◌, Bool, true, false, ◌&&◌, leb, List, [], ◌∷◌, ◌++◌, append-nil, length, take, drop, refl, sym, ap, subst, ◌∙◌, arith}
use mathlib.Core.List.{reverse}
use Rattle.std.proofs.lemmas.List.{reverse-append, length-take-le}
use Rattle.std.specs.List.{filter, All}
use Rattle.std.proofs.lemmas.Bool.Decides.{nat_tests}
use Rattle.std.proofs.lemmas.List.Elements.{All-nil, All-cons, All-head, All-tail, All-weaker, All-append, All-filter, All-take, filter-append, filter_passes}
use Rattle.records.specs.declared.filter.Order.{Order}
use Rattle.records.specs.declared.filter.Order.TheVariants.{Oldest, Newest}
use Rattle.records.specs.declared.query.Span.{Span}
use Rattle.records.specs.Queries.{is_within, time_behind}
use Rattle.records.specs.Reads.{in_order}
use Rattle.chain.specs.Pages.{ComesBefore, RunsIn, all_within, behind_last, span_behind, span_towards}

-- whether a time lies from another one on, in an order
abbrev pub is_from : Order → ℕ → ℕ → Bool
is_from Oldest from time = leb from time
is_from Newest from time = leb time from

not_itself : (order : Order) (time : ℕ) → 0 < time → is_from order (time_behind order time) time ≡ false
not_itself Oldest time some = grind (arith, nat_tests)
not_itself Newest time some = grind (arith, nat_tests)

not_before :
    (order : Order) (time later : ℕ) → 0 < later → ComesBefore order time later →
    is_from order (time_behind order later) time ≡ false
not_before Oldest time later some before = grind (arith, nat_tests)
not_before Newest time later some before = grind (arith, nat_tests)

is_behind :
    (order : Order) (time later : ℕ) → 0 < time → ComesBefore order time later →
    is_from order (time_behind order time) later ≡ true
is_behind Oldest time later some before = grind (arith, nat_tests)
is_behind Newest time later some before = grind (arith, nat_tests)

module _ {A : Type 0} (time : A → ℕ) where
  pub keeps_all : (p : A → Bool) (xs : List A) → All (λ x. p x ≡ true) xs → filter p xs ≡ xs
  keeps_all p [] all = refl
  keeps_all p (x ∷ xs) all =
      rw (All-head (λ y. p y ≡ true) x xs all)
      (ap (λ ys. x ∷ ys) (keeps_all p xs (All-tail (λ y. p y ≡ true) x xs all)))

  -- what holds of the times behind all of them holds of the time behind the last
  pub last_has :
      (P : ℕ → Type 0) (order : Order) (behind : ℕ) (xs : List A) → P behind →
      All (λ x. P (time_behind order (time x))) xs → P (behind_last time order behind xs)
  last_has P order behind [] at all = at
  last_has P order behind (x ∷ xs) at all =
      let Q = λ (y : A). P (time_behind order (time y)) in
      last_has P order (time_behind order (time x)) xs (All-head Q x xs all) (All-tail Q x xs all)

  -- of records that run in order, those behind the first so many
  behind_first :
      (order : Order) (behind count : ℕ) (xs : List A) → RunsIn time order xs →
      All (λ x. 0 < time x) xs → 0 < count →
      count ≤ length xs →
      filter (λ x. is_from order (behind_last time order behind (take count xs)) (time x)) xs
      ≡ drop count xs
  behind_first order behind zero xs runs positive some within = absurd (omega arith)
  behind_first order behind (suc count) [] runs positive some within = absurd (omega arith)
  behind_first order behind (suc zero) (x ∷ xs) runs positive some within =
      let first = All-head (λ y. 0 < time y) x xs positive in
      rw (not_itself order (time x) first)
      (keeps_all (λ y. is_from order (time_behind order (time x)) (time y)) xs
      (All-weaker (λ y. ComesBefore order (time x) (time y))
      (λ y. is_from order (time_behind order (time x)) (time y) ≡ true)
      (λ y before. is_behind order (time x) (time y) first before) xs runs.0))
  behind_first order behind (suc (suc count)) (x ∷ xs) runs positive some within =
      let rest = All-tail (λ y. 0 < time y) x xs positive in
      let later = behind_first order (time_behind order (time x)) (suc count) xs runs.1 rest (omega arith) (omega arith) in
      let last = behind_last time order (time_behind order (time x)) (take (suc count) xs) in
      let x_out : is_from order last (time x) ≡ false =
      last_has (λ b. is_from order b (time x) ≡ false) order (time_behind order (time x)) (take (suc count) xs)
      (not_itself order (time x) (All-head (λ y. 0 < time y) x xs positive))
      (All-take (λ y. is_from order (time_behind order (time y)) (time x) ≡ false) (suc count) xs
      (λ k d inside. not_before order (time x) (time _) (rest k d inside) (runs.0 k d inside))) in
      rw x_out later

  -- records that run in an order, of which some are kept
  runs_kept :
      (order : Order) (p : A → Bool) (x : A) (xs : List A) (b : Bool) → p x ≡ b →
      All (λ y. ComesBefore order (time x) (time y)) xs → RunsIn time order (filter p xs) →
      RunsIn time order (filter p (x ∷ xs))
  runs_kept order p x xs true is before rest =
      rw is (All-filter p (λ y. ComesBefore order (time x) (time y)) xs before, rest)
  runs_kept order p x xs false is before rest = rw is rest

  runs_filter :
      (order : Order) (p : A → Bool) (xs : List A) → RunsIn time order xs →
      RunsIn time order (filter p xs)
  runs_filter order p [] runs = tt
  runs_filter order p (x ∷ xs) runs =
      runs_kept order p x xs (p x) refl runs.0 (runs_filter order p xs runs.1)

  runs_push :
      (order : Order) (xs : List A) (x : A) → RunsIn time order xs →
      All (λ y. ComesBefore order (time y) (time x)) xs → RunsIn time order (xs ++ x ∷ [])
  runs_push order [] x runs before = (All-nil (λ other. ComesBefore order (time x) (time other)), tt)
  runs_push order (y ∷ ys) x runs before =
      let P = λ (other : A). ComesBefore order (time y) (time other) in (
        All-append P ys (x ∷ []) runs.0
            (All-cons P x [] (All-head (λ z. ComesBefore order (time z) (time x)) y ys before) (All-nil P)),
        runs_push order ys x runs.1 (All-tail (λ z. ComesBefore order (time z) (time x)) y ys before),
      )

  all_reversed : (P : A → Type 0) (xs : List A) → All P xs → All P (reverse xs)
  all_reversed P [] all = all
  all_reversed P (x ∷ xs) all =
      subst (λ ys. All P ys) (sym (reverse-append (x ∷ []) xs))
      (All-append P (reverse xs) (x ∷ []) (all_reversed P xs (All-tail P x xs all))
      (All-cons P x [] (All-head P x xs all) (All-nil P)))

  newest_runs : (xs : List A) → RunsIn time Oldest xs → RunsIn time Newest (reverse xs)
  newest_runs [] rise = tt
  newest_runs (x ∷ xs) rise =
      subst (λ ys. RunsIn time Newest ys) (sym (reverse-append (x ∷ []) xs))
      (runs_push Newest (reverse xs) x (newest_runs xs rise.1)
      (all_reversed (λ y. time x < time y) xs rise.0))

  in_order_runs :
      (order : Order) (xs : List A) → RunsIn time Oldest xs → RunsIn time order (in_order order xs)
  in_order_runs Oldest xs rise = rise
  in_order_runs Newest xs rise = newest_runs xs rise

  in_order_all : (P : A → Type 0) (order : Order) (xs : List A) → All P xs → All P (in_order order xs)
  in_order_all P Oldest xs all = all
  in_order_all P Newest xs all = all_reversed P xs all

  last_one :
      (p : A → Bool) (x : A) (xs : List A) (b : Bool) → p x ≡ b →
      reverse (filter p xs) ++ filter p (x ∷ []) ≡ reverse (filter p (x ∷ xs))
  last_one p x xs true is = rw is (sym (reverse-append (x ∷ []) (filter p xs)))
  last_one p x xs false is = rw is (append-nil (reverse (filter p xs)))

  reverse_filter : (p : A → Bool) (xs : List A) → filter p (reverse xs) ≡ reverse (filter p xs)
  reverse_filter p [] = refl
  reverse_filter p (x ∷ xs) =
      ap (filter p) (reverse-append (x ∷ []) xs)
      ∙ filter-append p (reverse xs) (x ∷ []) ∙ ap (λ ys. ys ++ filter p (x ∷ [])) (reverse_filter p xs)
      ∙ last_one p x xs (p x) refl

  pub in_order_filter :
      (p : A → Bool) (order : Order) (xs : List A) →
      in_order order (filter p xs) ≡ filter p (in_order order xs)
  in_order_filter p Oldest xs = refl
  in_order_filter p Newest xs = sym (reverse_filter p xs)

  -- a test that is two tests at each element
  by_tests :
      (p q r : A → Bool) (x : A) (xs : List A) (b c : Bool) → q x ≡ b → r x ≡ c →
      p x ≡ (q x && r x) → filter p xs ≡ filter r (filter q xs) →
      filter p (x ∷ xs) ≡ filter r (filter q (x ∷ xs))
  by_tests p q r x xs true true is also splits rest =
      rw (splits, is) (rw also (ap (λ ys. x ∷ ys) rest))
  by_tests p q r x xs true false is also splits rest = rw (splits, is) (rw also rest)
  by_tests p q r x xs false c is also splits rest = rw (splits, is) rest

  filter_both :
      (p q r : A → Bool) (xs : List A) → ((x : A) → p x ≡ (q x && r x)) →
      filter p xs ≡ filter r (filter q xs)
  filter_both p q r [] splits = refl
  filter_both p q r (x ∷ xs) splits =
      by_tests p q r x xs (q x) (r x) refl refl (splits x) (filter_both p q r xs splits)

-- a time that lies in a span, from its end on in an order
abbrev pub LiesIn : Order → Span → ℕ → Type 0
LiesIn Oldest span time = span.first ≤ time
LiesIn Newest span time = time ≤ span.last

oldest_splits :
    (first last from time : ℕ) → first ≤ from →
    (leb from time && leb time last) ≡ (leb first time && leb time last && leb from time)
oldest_splits first last from time inside = grind (arith, nat_tests)

newest_splits :
    (first last from time : ℕ) → from ≤ last →
    (leb first time && leb time from) ≡ (leb first time && leb time last && leb time from)
newest_splits first last from time inside = grind (arith, nat_tests)

-- a time within the rest of a span is one within the span, from there on
splits_at :
    (order : Order) (span : Span) (from time : ℕ) → LiesIn order span from →
    is_within (span_towards order span from) time ≡ (is_within span time && is_from order from time)
splits_at Oldest span from time inside = oldest_splits span.first span.last from time inside
splits_at Newest span from time inside = newest_splits span.first span.last from time inside

pub same_order :
    (order : Order) (span : Span) (from : ℕ) → (span_towards order span from).order ≡ span.order
same_order Oldest span from = refl
same_order Newest span from = refl

lies_within :
    (first last time : ℕ) → (leb first time && leb time last) ≡ true →
    (first ≤ time) × (time ≤ last)
lies_within first last time within = grind (arith, nat_tests)

lies_behind :
    (order : Order) (span : Span) (time : ℕ) → is_within span time ≡ true →
    LiesIn order span (time_behind order time)
lies_behind Oldest span time within = omega (arith, (lies_within span.first span.last time within).0)
lies_behind Newest span time within = omega (arith, (lies_within span.first span.last time within).1)

module _ {A : Type 0} (time : A → ℕ) where
  last_lies :
      (P : ℕ → Type 0) (order : Order) (behind : ℕ) (xs : List A) → 0 < length xs →
      All (λ x. P (time_behind order (time x))) xs → P (behind_last time order behind xs)
  last_lies P order behind [] some all = absurd (omega arith)
  last_lies P order behind (x ∷ xs) some all =
      let Q = λ (y : A). P (time_behind order (time y)) in
      last_has time P order (time_behind order (time x)) xs (All-head Q x xs all) (All-tail Q x xs all)

  -- records of a span are such as the machine's records are
  pub within_all :
      (P : A → Type 0) (records : List A) (span : Span) → All P records →
      All P (all_within time span records)
  within_all P records span all =
      let p = λ (it : A). is_within span (time it) in
      in_order_all time P span.order (filter p records) (All-filter p P records all)

  -- the records behind the first so many of a span are those of the rest of the span
  pub rest_of_span :
      (records : List A) (span : Span) (behind count : ℕ) →
      RunsIn time Oldest records → All (λ it. 0 < time it) records →
      0 < count → count ≤ length (all_within time span records) →
      all_within time
      (span_behind span (behind_last time span.order behind (take count (all_within time span records)))) records
      ≡ drop count (all_within time span records)
  rest_of_span records span behind count rise positive some within =
      let p = λ (it : A). is_within span (time it) in
      let all = all_within time span records in
      let from = behind_last time span.order behind (take count all) in
      let inside = λ (it : A). LiesIn span.order span (time_behind span.order (time it)) in
      let some_taken : 0 < length (take count all) = omega (arith, length-take-le count all within) in
      let lies = last_lies (LiesIn span.order span) span.order behind (take count all) some_taken
      (All-take inside count all (in_order_all time inside span.order (filter p records)
      (All-weaker (λ (it : A). p it ≡ true) inside (λ it passes. lies_behind span.order span (time it) passes) (filter p records)
      (filter_passes p records)))) in
      ap (λ order. in_order order (filter (λ it. is_within (span_towards span.order span from) (time it)) records)) (same_order span.order span from)
      ∙ ap (in_order span.order) (filter_both time (λ it. is_within (span_towards span.order span from) (time it)) p
      (λ it. is_from span.order from (time it)) records (λ it. splits_at span.order span from (time it) lies))
      ∙ in_order_filter time (λ it. is_from span.order from (time it)) span.order (filter p records)
      ∙ behind_first time span.order behind count all
      (in_order_runs time span.order (filter p records) (runs_filter time Oldest p records rise))
      (within_all (λ it. 0 < time it) records span positive) some within
