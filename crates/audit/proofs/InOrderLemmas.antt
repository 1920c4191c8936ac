-- Rows in order of key: the same rows, ascending where their keys are distinct.
use Rattle.std.proofs.Common.{◌≡◌, ◌≢◌, ◌<◌, ◌≤◌, ◌+◌, ℕ, Bool, true, false, leb, eqb, cond, ◌⊎◌, List, [], ◌∷◌, inl, inr, refl, sym, ap, ◌∙◌, subst, arith, IsPermutation}
use Rattle.std.specs.List.{All, count_by}
use Rattle.std.proofs.lemmas.Bool.Decides.{leb_tells, eqb_tells}
use Rattle.std.proofs.lemmas.List.Elements.{All-nil, All-cons, All-head, All-tail, All-weaker}
use Rattle.std.proofs.lemmas.List.Sorted.{IsPermutation-refl, IsPermutation-trans, IsPermutation-cons, IsPermutation-middle, All-permutation}
use Rattle.std.proofs.lemmas.List.Sums.{sum_by-cons}
use Rattle.rows.specs.Tables.{HasDistinctKeys, IsAscendingBy}
use Rattle.audit.specs.Order.{placed, in_order}

-- the same rows
either_first : {A : Type 0} (here : Bool) (row x : A) (xs rest : List A) → IsPermutation (row ∷ xs) rest → IsPermutation (row ∷ x ∷ xs) (cond here (row ∷ x ∷ xs) (x ∷ rest))
either_first true row x xs rest same = IsPermutation-refl (row ∷ x ∷ xs)
either_first false row x xs rest same = IsPermutation-trans (row ∷ x ∷ xs) (x ∷ row ∷ xs) (x ∷ rest) (IsPermutation-middle (row ∷ []) x xs) (IsPermutation-cons x (row ∷ xs) rest same)

placed_same : {A : Type 0} (key : A → ℕ) (row : A) (xs : List A) → IsPermutation (row ∷ xs) (placed key row xs)
placed_same key row [] = IsPermutation-refl (row ∷ [])
placed_same key row (x ∷ xs) = either_first (leb (key row) (key x)) row x xs (placed key row xs) (placed_same key row xs)

pub in_order_same : {A : Type 0} (key : A → ℕ) (xs : List A) → IsPermutation xs (in_order key xs)
in_order_same key [] = IsPermutation-refl []
in_order_same key (x ∷ xs) =
    IsPermutation-trans (x ∷ xs) (x ∷ in_order key xs) (placed key x (in_order key xs)) (IsPermutation-cons x xs (in_order key xs) (in_order_same key xs)) (placed_same key x (in_order key xs))

-- ascending, where the new row has a key of its own
placed_first : {A : Type 0} (key : A → ℕ) (row x : A) (xs : List A) → IsAscendingBy key (x ∷ xs) → key row < key x → IsAscendingBy key (row ∷ x ∷ xs)
placed_first key row x xs up less =
    (All-cons (λ y. key row < key y) x xs less (All-weaker (λ y. key x < key y) (λ y. key row < key y) (λ y h. omega (arith, less, h)) xs up.0), up)

placed_behind : {A : Type 0} (key : A → ℕ) (row x : A) (xs rest : List A) → IsPermutation (row ∷ xs) rest → IsAscendingBy key (x ∷ xs) → key x < key row → IsAscendingBy key rest → IsAscendingBy key (x ∷ rest)
placed_behind key row x xs rest same up less then =
    (All-permutation (λ y. key x < key y) (row ∷ xs) rest same (All-cons (λ y. key x < key y) row xs less up.0), then)

placed_up : {A : Type 0} (key : A → ℕ) (row : A) (xs : List A) → IsAscendingBy key xs → All (λ y. key y ≢ key row) xs → IsAscendingBy key (placed key row xs)
placed_up key row [] up apart = (All-nil (λ y. key row < key y), tt)
placed_up key row (x ∷ xs) up apart =
    let away = All-head (λ y. key y ≢ key row) x xs apart in
    elim (leb_tells (key row) (key x)) [
      | inl le ↦ subst (λ (b : Bool). IsAscendingBy key (cond b (row ∷ x ∷ xs) (x ∷ placed key row xs))) (sym le.0) (placed_first key row x xs up (below (key row) (key x) le.1 away))
      | inr less ↦
          subst (λ (b : Bool). IsAscendingBy key (cond b (row ∷ x ∷ xs) (x ∷ placed key row xs))) (sym less.0)
          (placed_behind key row x xs (placed key row xs) (placed_same key row xs) up less.1 (placed_up key row xs up.1 (All-tail (λ y. key y ≢ key row) x xs apart)))
    ]
  where
    below : (a b : ℕ) → a ≤ b → b ≢ a → a < b
    below a b le away = omega (arith, le, away)

-- rows whose keys are counted once have keys of their own
none_counted : {A : Type 0} (key : A → ℕ) (id : ℕ) (xs : List A) → count_by (λ row. eqb (key row) id) xs ≡ 0 → All (λ y. key y ≢ id) xs
none_counted key id [] none = All-nil (λ y. key y ≢ id)
none_counted key id (x ∷ xs) none =
    let sums = sym (sum_by-cons (λ row. cond {A = ℕ} (eqb (key row) id) 1 0) x xs) ∙ none in
    elim (eqb_tells (key x) id) [
      | inl is ↦ absurd (omega (arith, sym (ap (λ (b : Bool). cond b 1 0 + count_by (λ row. eqb (key row) id) xs) is.0) ∙ sums))
      | inr away ↦ All-cons (λ y. key y ≢ id) x xs away.1 (none_counted key id xs (sym (ap (λ (b : Bool). cond b 1 0 + count_by (λ row. eqb (key row) id) xs) away.0 ∙ zero_plus (count_by (λ row. eqb (key row) id) xs)) ∙ sums))
    ]
  where
    zero_plus : (n : ℕ) → 0 + n ≡ n
    zero_plus n = omega arith

pub first_alone : {A : Type 0} (key : A → ℕ) (x : A) (xs : List A) → HasDistinctKeys key (x ∷ xs) → All (λ y. key y ≢ key x) xs
first_alone key x xs once =
    none_counted key (key x) xs (only (count_by (λ row. eqb (key row) (key x)) xs) (eqb_tells (key x) (key x)) (once (key x)) (sum_by-cons (λ row. cond {A = ℕ} (eqb (key row) (key x)) 1 0) x xs))
  where
    only : {b : Bool} {k c : ℕ} (n : ℕ) → ((b ≡ true) × (k ≡ k)) ⊎ ((b ≡ false) × (k ≢ k)) → c ≤ 1 → c ≡ cond b 1 0 + n → n ≡ 0
    only n (inl is) le sums = let e = ap (λ (b : Bool). cond b 1 0 + n) is.0 in omega (arith, le, sums ∙ e)
    only n (inr away) le sums = absurd (away.1 refl)

pub rest_alone : {A : Type 0} (key : A → ℕ) (x : A) (xs : List A) → HasDistinctKeys key (x ∷ xs) → HasDistinctKeys key xs
rest_alone key x xs once id = let sums = sum_by-cons (λ row. cond {A = ℕ} (eqb (key row) id) 1 0) x xs in omega (arith, sums, once id)

pub in_order_up : {A : Type 0} (key : A → ℕ) (xs : List A) → HasDistinctKeys key xs → IsAscendingBy key (in_order key xs)
in_order_up key [] once = tt
in_order_up key (x ∷ xs) once =
    placed_up key x (in_order key xs) (in_order_up key xs (rest_alone key x xs once))
    (All-permutation (λ y. key y ≢ key x) xs (in_order key xs) (in_order_same key xs) (first_alone key x xs once))
