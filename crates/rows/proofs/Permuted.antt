-- What holds of lists in another order.
use Rattle.std.proofs.Common.{◌≡◌, ◌<◌, ◌≤◌, ◌+◌, ℕ, Bool, true, false, eqb, cond, List, [], ◌∷◌, length, get_or, set, Option, Some, None, zero, suc, refl, sym, ap, ◌∙◌, arith}
use Rattle.std.specs.List.{filter, swap, count_by}
use Rattle.std.specs.List.Sorted.{IsPermutation}
use Rattle.std.proofs.lemmas.Bool.{eq-eqb}
use Rattle.std.proofs.Math.Bool.{and-true}
use Rattle.std.proofs.lemmas.List.Sums.{sum_by-cons}
use Rattle.std.proofs.lemmas.List.Sorted.{IsPermutation-refl, IsPermutation-cons, IsPermutation-trans, IsPermutation-append_left, IsPermutation-append_comm, IsPermutation-keeps, sum_by-IsPermutation}
use Rattle.engine.proofs.ValidMachineLemmas.{with_key, AreDistinct}
use Rattle.rows.specs.Tables.{HasDistinctKeys}
use Rattle.rows.proofs.Counts.{counted, count_keyed}

-- a relation that holds of a list and itself, under a head, of two heads in turn, and in chains, holds of any order
module _ {X : Type 0} (R : List X → List X → Type 0) (same : (xs : List X) → R xs xs) (skip : (x : X) (xs ys : List X) → R xs ys → R (x ∷ xs) (x ∷ ys)) (turn : (x y : X) (xs : List X) → R (x ∷ y ∷ xs) (y ∷ x ∷ xs)) (chain : (xs ys zs : List X) → R xs ys → R ys zs → R xs zs) where
  to_head : (l : List X) (j : ℕ) (x d : X) → j < length l → R (x ∷ l) (get_or l j d ∷ set l j x)
  to_head [] j x d h = absurd (omega arith)
  to_head (y ∷ l) zero x d h = turn x y l
  to_head (y ∷ l) (suc j) x d h = chain _ _ _ (turn x y l) (chain _ _ _ (skip y _ _ (to_head l j x d (omega arith))) (turn y (get_or l j d) (set l j x)))

  exchanged : (l : List X) (i j : ℕ) (d : X) → i < length l → j < length l → R l (set (set l i (get_or l j d)) j (get_or l i d))
  exchanged [] i j d p q = absurd (omega arith)
  exchanged (x ∷ l) zero zero d p q = same (x ∷ l)
  exchanged (x ∷ l) zero (suc j) d p q = to_head l j x d (omega arith)
  exchanged (x ∷ l) (suc i) zero d p q = to_head l i x d (omega arith)
  exchanged (x ∷ l) (suc i) (suc j) d p q = skip x _ _ (exchanged l i j d (omega arith) (omega arith))

  swapped : (l : List X) (i j : ℕ) → i < length l → j < length l → R l (swap l i j)
  swapped [] i j p q = same []
  swapped (x ∷ l) i j p q = exchanged (x ∷ l) i j x p q

  pub along : (xs ys : List X) → IsPermutation xs ys → R xs ys
  along xs = IsPermutation-keeps xs (R xs) (same xs) (λ l i j p q h. chain xs l _ h (swapped l i j p q))

-- what passes a test
kept_under : {A : Type 0} (passes : Bool) (x : A) (xs ys : List A) → IsPermutation xs ys → IsPermutation (cond passes (x ∷ xs) xs) (cond passes (x ∷ ys) ys)
kept_under true x xs ys h = IsPermutation-cons x xs ys h
kept_under false x xs ys h = h

pub turned : {A : Type 0} (x y : A) (xs : List A) → IsPermutation (x ∷ y ∷ xs) (y ∷ x ∷ xs)
turned x y xs = IsPermutation-append_left xs (x ∷ y ∷ []) (y ∷ x ∷ []) (IsPermutation-append_comm (x ∷ []) (y ∷ []))

kept_turned : {A : Type 0} (px py : Bool) (x y : A) (xs : List A) → IsPermutation (cond px (x ∷ cond py (y ∷ xs) xs) (cond py (y ∷ xs) xs)) (cond py (y ∷ cond px (x ∷ xs) xs) (cond px (x ∷ xs) xs))
kept_turned true true x y xs = turned x y xs
kept_turned true false x y xs = IsPermutation-refl (x ∷ xs)
kept_turned false true x y xs = IsPermutation-refl (y ∷ xs)
kept_turned false false x y xs = IsPermutation-refl xs

pub IsPermutation-filter : {A : Type 0} (p : A → Bool) (xs ys : List A) → IsPermutation xs ys → IsPermutation (filter p xs) (filter p ys)
IsPermutation-filter p =
    along (λ xs ys. IsPermutation (filter p xs) (filter p ys)) (λ xs. IsPermutation-refl (filter p xs))
    (λ x xs ys h. kept_under (p x) x (filter p xs) (filter p ys) h) (λ x y xs. kept_turned (p x) (p y) x y (filter p xs))
    (λ xs ys zs. IsPermutation-trans (filter p xs) (filter p ys) (filter p zs))

-- distinct keys, as the engine has them and as tables have them
one_at_most : {A : Type 0} (found : Option A) → counted (λ (x : A). true) found ≤ 1
one_at_most None = omega arith
one_at_most (Some x) = omega arith

pub distinct_keys : {A : Type 0} (key : A → ℕ) (xs : List A) → AreDistinct key xs → HasDistinctKeys key xs
distinct_keys key xs d id =
    let same = ap (λ (p : _ → Bool). count_by p xs) (λ i x. and-true (eqb (key x) id) i) in
    omega (arith, sym same ∙ count_keyed key (λ x. true) id xs d, one_at_most (with_key key id xs))

pub distinct_permuted : {A : Type 0} (key : A → ℕ) (xs ys : List A) → IsPermutation xs ys → HasDistinctKeys key xs → HasDistinctKeys key ys
distinct_permuted key xs ys same d id = omega (arith, d id, sum_by-IsPermutation (λ x. cond {A = ℕ} (eqb (key x) id) 1 0) xs ys same)

-- and back
not_here : {A : Type 0} (here : Bool) (x : A) (behind : Option A) (n : ℕ) → cond here 1 0 + n ≡ 0 → (n ≡ 0 → behind ≡ None) → cond here (Some x) behind ≡ None
not_here true x behind n none rest = absurd (omega arith)
not_here false x behind n none rest = rest (omega arith)

none_counted : {A : Type 0} (key : A → ℕ) (id : ℕ) (xs : List A) → count_by (λ row. eqb (key row) id) xs ≡ 0 → with_key key id xs ≡ None
none_counted key id [] none = refl
none_counted key id (x ∷ xs) none = not_here (eqb (key x) id) x (with_key key id xs) (count_by (λ row. eqb (key row) id) xs) (sym (sum_by-cons (λ row. cond {A = ℕ} (eqb (key row) id) 1 0) x xs) ∙ none) (none_counted key id xs)

pub keys_distinct : {A : Type 0} (key : A → ℕ) (xs : List A) → HasDistinctKeys key xs → AreDistinct key xs
keys_distinct key [] once = tt
keys_distinct key (x ∷ xs) once =
    let counts = λ (id : ℕ). sum_by-cons (λ row. cond {A = ℕ} (eqb (key row) id) 1 0) x xs in (
      none_counted key (key x) xs (omega (arith, once (key x), counts (key x), ap (λ (b : Bool). cond {A = ℕ} b 1 0) (eq-eqb (key x) (key x) refl))),
      keys_distinct key xs (λ id. omega (arith, once id, counts id)),
    )
