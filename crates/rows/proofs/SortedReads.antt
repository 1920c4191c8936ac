-- What is read in order of a key is one list.
use Rattle.std.proofs.Common.{◌≡◌, ◌<◌, ◌≤◌, ℕ, Bool, true, eqb, cond, List, [], ◌∷◌, length, get_or, suc, refl, sym, ap, ◌∙◌, arith}
use Rattle.std.specs.List.{count_by}
use Rattle.std.specs.List.Sorted.{IsPermutation, IsNonDecreasingBy, IsSortedByKey}
use Rattle.std.specs.Ordering.{nat_cmp}
use Rattle.std.proofs.lemmas.Bool.{eq-eqb, ltb-true}
use Rattle.std.proofs.lemmas.List.Folds.{list_any_at}
use Rattle.std.proofs.lemmas.List.Sums.{sum_by-cons}
use Rattle.std.proofs.lemmas.List.Sorted.{IsNonDecreasingBy-from_sort}
use Rattle.rows.specs.Tables.{HasDistinctKeys, IsAscendingBy}
use Rattle.rows.proofs.Counts.{any_by_count}
use Rattle.rows.proofs.Permuted.{distinct_keys, distinct_permuted}
use Rattle.rows.proofs.AnyOrder.{distinct_ascending, same_by_permutation}

-- a key that stands behind is counted
is_counted : {A : Type 0} (p : A → Bool) (xs : List A) (k : ℕ) (d : A) → k < length xs → p (get_or xs k d) ≡ true → 0 < count_by p xs
is_counted p xs k d within passes = ltb-true 0 (count_by p xs) (sym (any_by_count p xs) ∙ list_any_at p xs k d within passes)

other_key : (a b : ℕ) → a ≤ b → (b ≡ a → 1 < 1) → a < b
other_key a b le other = grind (arith, other)

-- in order, and each key once, is ascending
pub sorted_ascends : {A : Type 0} (key : A → ℕ) (xs : List A) → IsNonDecreasingBy key xs → HasDistinctKeys key xs → IsAscendingBy key xs
sorted_ascends key [] up once = tt
sorted_ascends key (x ∷ xs) up once =
    let counts = λ (id : ℕ). sum_by-cons (λ y. cond {A = ℕ} (eqb (key y) id) 1 0) x xs in (
      λ k d within. other_key (key x) (key (get_or xs k d)) (up 0 (suc k) d (omega arith) (omega arith)) (λ same.
          omega (arith, once (key x), counts (key x), ap (λ (b : Bool). cond {A = ℕ} b 1 0) (eq-eqb (key x) (key x) refl), is_counted (λ y. eqb (key y) (key x)) xs k d within (eq-eqb (key (get_or xs k d)) (key x) same))),
      sorted_ascends key xs (λ i j d le within. up (suc i) (suc j) d (omega arith) (omega arith)) (λ id. omega (arith, once id, counts id)),
    )

pub sorted_once : {A : Type 0} (key : A → ℕ) (xs ys : List A) → HasDistinctKeys key xs → IsPermutation xs ys → IsSortedByKey key nat_cmp xs → IsSortedByKey key nat_cmp ys → xs ≡ ys
sorted_once key xs ys once same in_order other =
    same_by_permutation key xs ys (sorted_ascends key xs (IsNonDecreasingBy-from_sort key xs in_order) once)
    (sorted_ascends key ys (IsNonDecreasingBy-from_sort key ys other) (distinct_permuted key xs ys same once)) same

pub ascending_once : {A : Type 0} (key : A → ℕ) (xs ys : List A) → IsAscendingBy key xs → IsPermutation xs ys → IsSortedByKey key nat_cmp ys → xs ≡ ys
ascending_once key xs ys up same in_order =
    let once = distinct_permuted key xs ys same (distinct_keys key xs (distinct_ascending key xs up)) in
    same_by_permutation key xs ys up (sorted_ascends key ys (IsNonDecreasingBy-from_sort key ys in_order) once) same
