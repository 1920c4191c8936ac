-- Rows that are sound in one reading are so in each.
use Rattle.std.proofs.Common.{◌≡◌, ◌+◌, ◌<◌, ◌≤◌, ℕ, Bool, false, true, is_lt, List, [], ◌∷◌, map, length, get_or, set, inl, inr, refl, sym, ap, subst, ◌∙◌, arith}
use Rattle.std.specs.declared.cmp.Ordering.{Ordering}
use Rattle.std.specs.List.{All, swap}
use Rattle.std.specs.List.Sorted.{IsPermutation, IsSorted, IsSortedByKey}
use Rattle.std.specs.Ordering.{nat_cmp}
use Rattle.std.proofs.Math.ListN.{get_or-map}
use Rattle.std.proofs.lemmas.Bool.Decides.{leb_tells, nat_tests}
use Rattle.std.proofs.lemmas.List.{length-map, map-set}
use Rattle.std.proofs.lemmas.List.Elements.{All-get_or}
use Rattle.std.proofs.lemmas.List.Sorted.{All-permutation, IsPermutation-keeps, IsPermutation-refl, IsPermutation-swap, IsPermutation-sym, IsPermutation-trans}
use Rattle.rows.specs.Tables.{IsAscendingBy}
use Rattle.sqlite_value.specs.Order.{Row}
use Rattle.ledger_sql.specs.Reading.{ReadsRows}
use Rattle.openings.specs.Tables.{ReadsSince}

-- what is known of rows that are read in order
abbrev pub OneOrder : Type 0 → Type 0
OneOrder R =
    (key : R → ℕ) (xs ys : List R) → IsAscendingBy key xs → IsPermutation xs ys → IsSortedByKey key nat_cmp ys → xs ≡ ys

module _ {T C : Type 0} (cells : T → C) where
  map_swap : (ts : List T) (i j : ℕ) → map cells (swap ts i j) ≡ swap (map cells ts) i j
  map_swap [] i j = refl
  map_swap (t ∷ ts) i j =
      let there = sym (get_or-map cells (t ∷ ts) j t) in
      let here = sym (get_or-map cells (t ∷ ts) i t) in
      map-set cells (set (t ∷ ts) i (get_or (t ∷ ts) j t)) j (get_or (t ∷ ts) i t)
      ∙ (λ k. set (map-set cells (t ∷ ts) i (get_or (t ∷ ts) j t) k) j (cells (get_or (t ∷ ts) i t)))
      ∙ (λ k. set (set (map cells (t ∷ ts)) i (there k)) j (here k))

  -- cells in another order are those of typed rows in another order
  abbrev pub Typed : List T → List C → Type 0
  Typed ts own = (us : List T) × IsPermutation ts us × (map cells us ≡ own)

  pub typed_again : (ts : List T) (own : List C) → IsPermutation (map cells ts) own → Typed ts own
  typed_again ts own same =
      IsPermutation-keeps (map cells ts) (Typed ts) (ts, IsPermutation-refl ts, refl) (λ l i j p q was.
      let long : length l ≡ length was.0 = sym (ap length was.2) ∙ length-map was.0 cells in (
        swap was.0 i j,
        IsPermutation-trans ts was.0 (swap was.0 i j) was.1 (IsPermutation-swap was.0 (swap was.0 i j) i j (omega (arith, p, long)) (omega (arith, q, long)) refl),
        map_swap was.0 i j ∙ ap (λ (l : List C). swap l i j) was.2,
      )) own same

  -- what stands in the order of its cells does so in that of its key
  pub sorted_key : (cmp : C → C → Ordering) (key : T → ℕ) (Fits : T → Type 0)
      → ((t u : T) → Fits t → Fits u → key t < key u → is_lt (cmp (cells t) (cells u)) ≡ true)
      → (ts : List T) → All Fits ts → IsSorted cmp (map cells ts) → IsSortedByKey key nat_cmp ts
  sorted_key cmp key Fits less ts fit sorted k d low within =
      let long = length-map ts cells in
      let up = sorted k (cells d) low (omega (arith, within, long)) in
      let here : get_or (map cells ts) k (cells d) ≡ cells (get_or ts k d) = get_or-map cells ts k d in
      let next : get_or (map cells ts) (k + 1) (cells d) ≡ cells (get_or ts (k + 1) d) = get_or-map cells ts (k + 1) d in
      not_less (key (get_or ts (k + 1) d)) (key (get_or ts k d)) (λ below.
      both (less (get_or ts (k + 1) d) (get_or ts k d) (All-get_or Fits ts (k + 1) d (omega (arith, within)) fit)
      (All-get_or Fits ts k d (omega (arith, within)) fit) below)
      (subst (λ (c : C). is_lt (cmp c (cells (get_or ts k d))) ≡ false) next
      (subst (λ (c : C). is_lt (cmp (get_or (map cells ts) (k + 1) (cells d)) c) ≡ false) here up)))
    where
      both : {b : Bool} → b ≡ true → b ≡ false → ⊥
      both first second = cc

      at_least : (a b : ℕ) → b ≤ a → is_lt (nat_cmp a b) ≡ false
      at_least a b le = grind (arith, nat_tests)

      not_less : (a b : ℕ) → (a < b → ⊥) → is_lt (nat_cmp a b) ≡ false
      not_less a b none = elim (leb_tells b a) [ inl le ↦ at_least a b le.1 | inr below ↦ absurd (none below.1) ]

module _ {C : Type 0} (values : C → Row) (one : (c d : C) → values c ≡ values d → c ≡ d) where
  same_mapped : (cs ds : List C) → map values cs ≡ map values ds → cs ≡ ds
  same_mapped [] [] same = refl
  same_mapped [] (d ∷ ds) same = absurd (cc)
  same_mapped (c ∷ cs) [] same = absurd (cc)
  same_mapped (c ∷ cs) (d ∷ ds) same =
      let first : c ≡ d = one c d (cc) in
      let rest : cs ≡ ds = same_mapped cs ds (cc) in λ i. first i ∷ rest i

  -- two readings of one table have the same rows
  pub read_again : {T : Type 0} (cells : T → C) (table : List Row) (ts : List T) (own : List C)
      → IsPermutation table (map values (map cells ts)) → IsPermutation table (map values own) → Typed cells ts own
  read_again cells table ts own first second =
      let read = map cells ts in
      let again = typed_again values read (map values own)
      (IsPermutation-trans (map values read) table (map values own) (IsPermutation-sym table (map values read) first) second) in
      typed_again cells ts own (subst (IsPermutation read) (same_mapped again.0 own again.2) again.1)

  module _ {T : Type 0} (cells : T → C) (cmp : C → C → Ordering) (key : T → ℕ) (Fits : T → Type 0)
      (less : (t u : T) → Fits t → Fits u → key t < key u → is_lt (cmp (cells t) (cells u)) ≡ true)
      (once : OneOrder T) (table : List Row) (due ts : List T) (same : IsPermutation due ts) (fit : All Fits due)
      (up : IsAscendingBy key ts) where
    -- and in order of key they are one list
    one_reading : (b : List C) → ReadsRows values cmp table (map cells ts) → ReadsRows values cmp table b → map cells ts ≡ b
    one_reading b first second =
        let again = read_again cells table ts b first.all second.all in
        let fits = All-permutation Fits due again.0 (IsPermutation-trans due ts again.0 same again.1) fit in
        let sorted = sorted_key cells cmp key Fits less again.0 fits
        (subst (IsSorted cmp) (sym again.2) second.order) in
        ap (map cells) (once key ts again.0 up again.1 sorted) ∙ again.2

    pub read_since : (first version : ℕ) (b : List C) → ReadsSince first version values cmp table (map cells ts)
        → ReadsSince first version values cmp table b → map cells ts ≡ b
    read_since first version b a_reads b_reads = elim (leb_tells first version) [
      | inl there ↦ one_reading b (a_reads.there there.1) (b_reads.there there.1)
      | inr none ↦ a_reads.none none.1 ∙ sym (b_reads.none none.1)
    ]
