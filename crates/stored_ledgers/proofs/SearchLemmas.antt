-- The search over the sets of all tenants.
use Rattle.std.proofs.Common.{◌≡◌, inl, inr, ℕ, ◌<◌, ℤ, ◌<ℤ◌, ◌≤ℤ◌, Bool, true, false, cond, List, [], ◌∷◌, ◌++◌, filter, map, length, Option, Less, is_gt, Some, refl, sym, ap, subst, ◌∙◌, arith}
use Rattle.std.specs.BTreeMap.{get, IsOrdered}
use Rattle.std.specs.BTreeMap.Range.{range_contains, entries_between, IsEntryInRange}
use Rattle.std.specs.declared.ops.Bound.TheVariants.{Included, Unbounded}
use Rattle.std.specs.List.{All, AllByRecursion}
use Rattle.std.specs.List.Sorted.{IsStrictlySortedBy}
use Rattle.std.specs.Iterator.{Yields}
use Rattle.std.specs.Map.{keys_of}
use Rattle.std.specs.Map.Iter.{TakesFirst}
use Rattle.std.specs.Ordering.{int_cmp}
use Rattle.std.proofs.lemmas.Cmp.{int_ranked, by_ranked, int_cmp_total}
use Rattle.std.proofs.lemmas.Int.{ints}
use Rattle.std.proofs.lemmas.List.{append-nil}
use Rattle.std.proofs.lemmas.List.Elements.{All-contains, All-weaker, All-from_recursion, recursion_from_All}
use Rattle.std.proofs.lemmas.List.Kept.{IsStrictlySortedBy-filter}
use Rattle.std.proofs.lemmas.Map.Keys.{sorted_head, sorted_tail}
use Rattle.std.proofs.lemmas.Map.Lookups.{exact_signed}
use Rattle.std.proofs.lemmas.Map.Views.{range_contains-from_IsInRange, btree_map_get_iff}
use Rattle.stored_ledgers.specs.DueSets.{DueSet, DueSets}
use Rattle.stored_ledgers.proofs.SeenLemmas.{seen_more}
use Rattle.stored_ledgers.specs.declared.due_search.Search.{Search}
use Rattle.stored_ledgers.specs.declared.due_search.Piece.{Piece}
use Rattle.stored_ledgers.specs.Overdue.{IsOverdue, IsNotOverdue, IsDuePiece, BeginsSearch, number_behind, settled_to, ArePassed, ArePassedBefore, FindsOverdue, FindsNone}

-- what the order of two numbers says
less_is : (a b : ℤ) → int_cmp a b ≡ Less → a <ℤ b
less_is a b is = by_ranked (a <ℤ b) (a ≡ b) (b <ℤ a) (int_cmp a b) (int_ranked a b (int_cmp a b) refl)
    (λ _ less. less) (λ e _. absurd (cc)) (λ e _. absurd (cc))

pub upward : (a b : ℤ) → is_gt (int_cmp a b) ≡ false → a ≤ℤ b
upward a b is = by_ranked (a <ℤ b) (a ≡ b) (b <ℤ a) (int_cmp a b) (int_ranked a b (int_cmp a b) refl)
    (λ _ less. omega (arith, ints, less)) (λ _ same. omega (arith, ints, same))
    (λ e _. absurd (let g : is_gt (int_cmp a b) ≡ true = ap is_gt e in cc))

not_above : (a b : ℤ) → a ≤ℤ b → is_gt (int_cmp a b) ≡ false
not_above a b le = by_ranked (a <ℤ b) (a ≡ b) (b <ℤ a) (int_cmp a b) (int_ranked a b (int_cmp a b) refl)
    (λ e _. ap is_gt e) (λ e _. ap is_gt e) (λ _ more. absurd (omega (arith, ints, le, more)))

-- what holds of all that a test keeps holds of each element that passes it
kept_step : {X : Type 0} (p : X → Bool) (P : X → Type 0) (x : X) (xs : List X) (b : Bool) → p x ≡ b
    → AllByRecursion P (cond b (x ∷ filter p xs) (filter p xs))
    → (AllByRecursion P (filter p xs) → AllByRecursion (λ y. p y ≡ true → P y) xs)
    → (p x ≡ true → P x) × AllByRecursion (λ y. p y ≡ true → P y) xs
kept_step p P x xs true is all rest = (λ _. all.0, rest all.1)
kept_step p P x xs false is all rest =
    (λ yes. absurd (let e : false ≡ true = sym is ∙ yes in cc), rest all)

of_kept : {X : Type 0} (p : X → Bool) (P : X → Type 0) (xs : List X)
    → AllByRecursion P (filter p xs) → AllByRecursion (λ y. p y ≡ true → P y) xs
of_kept p P [] all = tt
of_kept p P (x ∷ xs) all = kept_step p P x xs (p x) refl all (of_kept p P xs)

-- the keys of what is kept by its keys
keys_step : {X : Type 0} (p : ℤ → Bool) (e : ℤ × X) (es : List (ℤ × X)) (b : Bool)
    → keys_of (filter (λ e. p e.0) es) ≡ filter p (keys_of es)
    → keys_of (cond b (e ∷ filter (λ e. p e.0) es) (filter (λ e. p e.0) es))
    ≡ cond b (e.0 ∷ filter p (keys_of es)) (filter p (keys_of es))
keys_step p e es true rest = ap (λ ks. e.0 ∷ ks) rest
keys_step p e es false rest = rest

keys_kept : {X : Type 0} (p : ℤ → Bool) (es : List (ℤ × X))
    → keys_of (filter (λ e. p e.0) es) ≡ filter p (keys_of es)
keys_kept p [] = refl
keys_kept p (e ∷ es) = keys_step p e es (p e.0) (keys_kept p es)

-- all entries from a number on
abbrev pub entries_on : ℤ → DueSets → List (ℤ × DueSet)
entries_on from due = entries_between int_cmp (Included from) Unbounded due.entries

pub sorted_on : (from : ℤ) (due : DueSets) → IsOrdered int_cmp due
    → IsStrictlySortedBy int_cmp (keys_of (entries_on from due))
sorted_on from due sorted =
    let p = range_contains int_cmp (Included from) Unbounded in
    subst (IsStrictlySortedBy int_cmp) (sym (keys_kept p due.entries))
    (IsStrictlySortedBy-filter int_cmp p (keys_of due.entries) sorted)

-- what holds of all of these holds of each set with such a number
pub on_from : (P : ℤ → DueSet → Type 0) (from : ℤ) (due : DueSets) → IsOrdered int_cmp due
    → AllByRecursion (λ e. P e.0 e.1) (entries_on from due) → (number : ℤ) → from ≤ℤ number
    → (set : DueSet) → get int_cmp due number ≡ Some set → P number set
on_from P from due sorted all number ahead set there =
    let p : ℤ × DueSet → Bool = λ e. range_contains int_cmp (Included from) Unbounded e.0 in
    All-contains (λ e. p e ≡ true → P e.0 e.1) due.entries (number, set)
    (All-from_recursion (λ e. p e ≡ true → P e.0 e.1) due.entries
    (of_kept p (λ e. P e.0 e.1) due.entries all))
    ((btree_map_get_iff int_cmp_total exact_signed due sorted number set).0 there)
    (range_contains-from_IsInRange int_cmp_total (Included from) Unbounded number
    (not_above from number ahead, tt))

-- the numbers behind an entry are greater, and so is it than those before
behind_entry : (seen : List (ℤ × DueSet)) (e : ℤ × DueSet) (rest : List (ℤ × DueSet))
    → IsStrictlySortedBy int_cmp (keys_of (seen ++ e ∷ rest))
    → AllByRecursion (λ k. int_cmp e.0 k ≡ Less) (keys_of rest)
behind_entry [] e rest sorted = sorted_head int_cmp e.0 (keys_of rest) sorted
behind_entry (s ∷ seen) e rest sorted =
    behind_entry seen e rest (sorted_tail int_cmp s.0 (keys_of (seen ++ e ∷ rest)) sorted)

middle_key : (P : ℤ → Type 0) (seen : List (ℤ × DueSet)) (e : ℤ × DueSet)
    (rest : List (ℤ × DueSet)) → AllByRecursion P (keys_of (seen ++ e ∷ rest)) → P e.0
middle_key P [] e rest all = all.0
middle_key P (s ∷ seen) e rest all = middle_key P seen e rest all.1

none_less : (P : ℤ → DueSet → Type 0) (end : ℤ) (rest : List (ℤ × DueSet))
    → AllByRecursion (λ k. int_cmp end k ≡ Less) (keys_of rest)
    → AllByRecursion (λ e. e.0 <ℤ end → P e.0 e.1) rest
none_less P end [] all = tt
none_less P end (e ∷ rest) all = (
  λ less. absurd (let more = less_is end e.0 all.0 in omega (arith, ints, less, more)),
  none_less P end rest all.1,
)

-- what holds of all that was seen holds of all before the next
before_entry : (P : ℤ → DueSet → Type 0) (seen : List (ℤ × DueSet)) (e : ℤ × DueSet)
    (rest : List (ℤ × DueSet)) → IsStrictlySortedBy int_cmp (keys_of (seen ++ e ∷ rest))
    → AllByRecursion (λ s. P s.0 s.1) seen
    → AllByRecursion (λ s. s.0 <ℤ e.0 → P s.0 s.1) (seen ++ e ∷ rest)
before_entry P [] e rest sorted all = (
  λ less. absurd (omega (arith, ints, less)),
  none_less P e.0 rest (behind_entry [] e rest sorted),
)
before_entry P (s ∷ seen) e rest sorted all = (
  λ _. all.0,
  before_entry P seen e rest (sorted_tail int_cmp s.0 (keys_of (seen ++ e ∷ rest)) sorted) all.1,
)

-- where something was seen, the next has a greater number than the first may have
greater : (from : ℤ) (seen : List (ℤ × DueSet)) (e : ℤ × DueSet) (rest : List (ℤ × DueSet))
    → 0 < length seen → IsStrictlySortedBy int_cmp (keys_of (seen ++ e ∷ rest))
    → AllByRecursion (λ s. from ≤ℤ s.0) (seen ++ e ∷ rest) → from <ℤ e.0
greater from [] e rest some sorted ahead = absurd (omega (arith, some))
greater from (s ∷ seen) e rest some sorted ahead =
    let less = less_is s.0 e.0 (middle_key (λ k. int_cmp s.0 k ≡ Less) seen e rest
    (sorted_head int_cmp s.0 (keys_of (seen ++ e ∷ rest)) sorted)) in
    let first = ahead.0 in omega (arith, ints, less, first)

middle : {X : Type 0} (P : X → Type 0) (xs : List X) (y : X) (ys : List X)
    → AllByRecursion P (xs ++ y ∷ ys) → P y
middle P [] y ys all = all.0
middle P (x ∷ xs) y ys all = middle P xs y ys all.1

-- the next entry has a number ahead, and its set is there
pub next_there : (from : ℤ) (due : DueSets) (seen : List (ℤ × DueSet)) (e : ℤ × DueSet)
    (rest : List (ℤ × DueSet)) → entries_on from due ≡ seen ++ e ∷ rest
    → All (IsEntryInRange int_cmp (Included from) Unbounded due) (entries_on from due)
    → (from ≤ℤ e.0) × (get int_cmp due e.0 ≡ Some e.1)
next_there from due seen e rest is all =
    let P = IsEntryInRange int_cmp (Included from) Unbounded due in
    let here = middle P seen e rest
    (recursion_from_All P (seen ++ e ∷ rest) (subst (All P) is all)) in
    (upward from e.0 here.0.0, here.1)

-- the sets that were seen are passed, up to the next
pub passed_before : (due : DueSets) (moment : ℕ) (search : Search) (seen : List (ℤ × DueSet))
    (e : ℤ × DueSet) (rest : List (ℤ × DueSet)) → entries_on search.from due ≡ seen ++ e ∷ rest
    → IsOrdered int_cmp due
    → All (λ s. IsNotOverdue s.1 (settled_to search s.0) moment) seen
    → ArePassedBefore due moment search e.0
passed_before due moment search seen e rest is sorted all number ahead less set there =
    let P : ℤ → DueSet → Type 0 = λ n s. IsNotOverdue s (settled_to search n) moment in
    let order = subst (λ es. IsStrictlySortedBy int_cmp (keys_of es)) is
    (sorted_on search.from due sorted) in
    on_from (λ n s. n <ℤ e.0 → P n s) search.from due sorted
    (subst (AllByRecursion (λ s. s.0 <ℤ e.0 → P s.0 s.1)) (sym is)
    (before_entry P seen e rest order (recursion_from_All (λ s. P s.0 s.1) seen all)))
    number ahead set there less

-- where all were seen, all are passed
pub passed_all : (due : DueSets) (moment : ℕ) (search : Search) (seen : List (ℤ × DueSet))
    → entries_on search.from due ≡ seen ++ [] → IsOrdered int_cmp due
    → All (λ s. IsNotOverdue s.1 (settled_to search s.0) moment) seen
    → ArePassed due moment search
passed_all due moment search seen is sorted all number ahead set there =
    let P : ℤ → DueSet → Type 0 = λ n s. IsNotOverdue s (settled_to search n) moment in
    on_from P search.from due sorted
    (subst (AllByRecursion (λ s. P s.0 s.1)) (sym (is ∙ append-nil seen))
    (recursion_from_All (λ s. P s.0 s.1) seen all)) number ahead set there

-- after some were seen the next has a later number
pub next_later : (due : DueSets) (from : ℤ) (seen : List (ℤ × DueSet)) (e : ℤ × DueSet)
    (rest : List (ℤ × DueSet)) → entries_on from due ≡ seen ++ e ∷ rest → IsOrdered int_cmp due
    → All (IsEntryInRange int_cmp (Included from) Unbounded due) (entries_on from due)
    → 0 < length seen → from <ℤ e.0
next_later due from seen e rest is sorted all some =
    let P = IsEntryInRange int_cmp (Included from) Unbounded due in
    let order = subst (λ es. IsStrictlySortedBy int_cmp (keys_of es)) is (sorted_on from due sorted) in
    let ahead = All-weaker P (λ s. from ≤ℤ s.0) (λ s here. upward from s.0 here.0.0)
    (seen ++ e ∷ rest) (subst (All P) is all) in
    greater from seen e rest some order
    (recursion_from_All (λ s. from ≤ℤ s.0) (seen ++ e ∷ rest) ahead)

-- a search that stops at the next
pub stops : (due : DueSets) (moment : ℕ) (old new : Search) (seen : List (ℤ × DueSet))
    (e : ℤ × DueSet) (rest : List (ℤ × DueSet)) → entries_on old.from due ≡ seen ++ e ∷ rest
    → IsOrdered int_cmp due
    → All (IsEntryInRange int_cmp (Included old.from) Unbounded due) (entries_on old.from due)
    → All (λ s. IsNotOverdue s.1 (settled_to old s.0) moment) seen → 0 < length seen
    → new.from ≡ e.0 → new.last ≡ old.last → FindsNone due moment old new
stops due moment old new seen e rest is sorted there all some from last = (
  inr (record {
    passed = subst (ArePassedBefore due moment old) (sym from)
        (passed_before due moment old seen e rest is sorted all);
    later = subst (λ n. old.from <ℤ n) (sym from)
        (next_later due old.from seen e rest is sorted there some);
  }),
  last,
)

-- one that begins anew
pub begins_anew : (due : DueSets) (moment : ℕ) (old new : Search) (seen : List (ℤ × DueSet))
    → entries_on old.from due ≡ seen ++ [] → IsOrdered int_cmp due
    → All (λ s. IsNotOverdue s.1 (settled_to old s.0) moment) seen
    → BeginsSearch new → new.last ≡ old.last → FindsNone due moment old new
begins_anew due moment old new seen is sorted all begins last =
    (inl (record { passed = passed_all due moment old seen is sorted all; begins = begins }), last)

-- one that finds the next
pub finds : (due : DueSets) (moment : ℕ) (old new : Search) (seen : List (ℤ × DueSet))
    (e : ℤ × DueSet) (rest : List (ℤ × DueSet)) (number : ℤ) (piece : Piece) (released : ℕ)
    → entries_on old.from due ≡ seen ++ e ∷ rest → IsOrdered int_cmp due
    → All (IsEntryInRange int_cmp (Included old.from) Unbounded due) (entries_on old.from due)
    → All (λ s. IsNotOverdue s.1 (settled_to old s.0) moment) seen → number ≡ e.0
    → released ≡ settled_to old e.0
    → IsOverdue e.1 released moment × IsDuePiece e.1 released moment piece
    → new.from ≡ number_behind number → new.last ≡ (number, piece.until)
    → FindsOverdue due moment old new number piece
finds due moment old new seen e rest number piece released is sorted there all same to told =
    let next = next_there old.from due seen e rest is there in
    let settled = subst (λ r. IsOverdue e.1 r moment × IsDuePiece e.1 r moment piece) to told in
    let P : ℤ → Type 0 = λ n. new.from ≡ number_behind n → new.last ≡ (n, piece.until)
    → FindsOverdue due moment old new n piece in
    subst P (sym same) (λ from last. record {
      ahead = next.0;
      passed = passed_before due moment old seen e rest is sorted all;
      found = (e.1, next.1, settled.0, settled.1);
      goes_on = from;
      last = last;
    })

-- to what time a tenant was settled, told by a search that is unchanged
pub still_settled : (old self : Search) (number n : ℤ) (released : ℕ) → self ≡ old → n ≡ number
    → released ≡ settled_to self n → released ≡ settled_to old number
still_settled old self number n released same is told =
    told ∙ ap (λ s. settled_to s n) same ∙ ap (settled_to old) is

-- what a range says of its entries, it says of all from its start
in_range : (start from : ℤ) (due : DueSets) (found : List (ℤ × DueSet)) → start ≡ from
    → found ≡ entries_on start due
    → All (IsEntryInRange int_cmp (Included start) Unbounded due) found
    → All (IsEntryInRange int_cmp (Included from) Unbounded due) (entries_on from due)
in_range start from due found same is all =
    subst (λ n. All (IsEntryInRange int_cmp (Included n) Unbounded due) (entries_on n due)) same
    (subst (All (IsEntryInRange int_cmp (Included start) Unbounded due)) is all)

-- a walk over a range sees all entries from its start
pub walks_all : (start from : ℤ) (due : DueSets) (found walked : List (ℤ × DueSet)) → start ≡ from
    → walked ≡ found → found ≡ entries_on start due → walked ≡ entries_on from due
walks_all start from due found walked same walks is =
    walks ∙ is ∙ ap (λ (n : ℤ). entries_on n due) same

-- and comes to an entry behind those that were seen
pub comes_to : {A : Type 0} (shows : A → ℤ × DueSet) (start from : ℤ) (due : DueSets)
    (found walked left rest : List (ℤ × DueSet)) (seen : List A) (next : A) (r : Option A)
    → start ≡ from → walked ≡ found → found ≡ entries_on start due
    → All (IsEntryInRange int_cmp (Included start) Unbounded due) found
    → Yields (TakesFirst shows) walked seen left → r ≡ Some next → TakesFirst shows left r rest
    → (entries_on from due ≡ map shows seen ++ shows next ∷ rest)
    × All (IsEntryInRange int_cmp (Included from) Unbounded due) (entries_on from due)
comes_to shows start from due found walked left rest seen next r same walks is there yields some takes = (
  seen_more shows (entries_on from due) walked left rest seen next r
      (walks_all start from due found walked same walks is) yields some takes,
  in_range start from due found same is there,
)
