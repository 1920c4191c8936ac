-- Rows in any order: point reads, and lists that are told by their elements.
use Rattle.std.proofs.Common.{◌≡◌, ◌<◌, ℕ, false, eqb, List, [], ◌∷◌, Option, Some, None, inl, inr, refl, sym, ap, ap₂, ◌∙◌, subst, arith}
use mathlib.Core.Logic.{◌⊎◌}
use Rattle.std.specs.List.{All}
use Rattle.std.specs.List.Sorted.{IsPermutation}
use Rattle.std.proofs.lemmas.Bool.{cases_Bool, eqb-true, eq-eqb, cond-true, cond-false, ne_eqb}
use Rattle.std.proofs.lemmas.List.Elements.{All-nil, All-cons, All-head, All-tail, All-weaker}
use Rattle.std.proofs.lemmas.List.Sorted.{All-permutation, IsPermutation-sym}
use Rattle.rows.specs.Tables.{IsAscendingBy}
use Rattle.engine.proofs.ValidMachineLemmas.{AreDistinct, found_all, found_itself, found_key, with_key, here_or_later, not_later}

-- a key that no element has
absent_all : {A : Type 0} (key : A → ℕ) (id : ℕ) (xs : List A) → with_key key id xs ≡ None → All (λ x. eqb (key x) id ≡ false) xs
absent_all key id [] none = All-nil (λ x. eqb (key x) id ≡ false)
absent_all key id (x ∷ xs) none =
    let away = not_later (eqb (key x) id) x (with_key key id xs) none in
    All-cons (λ y. eqb (key y) id ≡ false) x xs away.0 (absent_all key id xs away.1)

all_absent : {A : Type 0} (key : A → ℕ) (id : ℕ) (xs : List A) → All (λ x. eqb (key x) id ≡ false) xs → with_key key id xs ≡ None
all_absent key id [] all = refl
all_absent key id (x ∷ xs) all = cond-false (eqb (key x) id) (Some x) (with_key key id xs) (All-head (λ y. eqb (key y) id ≡ false) x xs all) ∙ all_absent key id xs (All-tail (λ y. eqb (key y) id ≡ false) x xs all)

-- what a look-up answers in another order
found_in : {A : Type 0} (key : A → ℕ) (xs ys : List A) (id : ℕ) → AreDistinct key xs → IsPermutation xs ys → (found : Option A) → with_key key id ys ≡ found → with_key key id xs ≡ found
found_in key xs ys id distinct same (Some y) is =
    let each = All-permutation (λ x. with_key key (key x) xs ≡ Some x) xs ys same (found_itself key xs distinct) in
    subst (λ k. with_key key k xs ≡ Some y) (found_key key id ys y is) (found_all (λ x. with_key key (key x) xs ≡ Some x) key id ys y each is)
found_in key xs ys id distinct same None is =
    all_absent key id xs (All-permutation (λ x. eqb (key x) id ≡ false) ys xs (IsPermutation-sym xs ys same) (absent_all key id ys is))

pub same_row : {A : Type 0} (key : A → ℕ) (xs ys : List A) (id : ℕ) → AreDistinct key xs → IsPermutation xs ys → with_key key id ys ≡ with_key key id xs
same_row key xs ys id distinct same = sym (found_in key xs ys id distinct same (with_key key id ys) refl)

-- nothing behind an element has its key
absent_behind : {A : Type 0} (key : A → ℕ) (least : ℕ) (xs : List A) → All (λ y. least < key y) xs → with_key key least xs ≡ None
absent_behind key least xs above = all_absent key least xs (All-weaker (λ y. least < key y) (λ y. eqb (key y) least ≡ false) (λ y h. ne_eqb (key y) least (λ is. absurd (omega (arith, is)))) xs above)

pub distinct_ascending : {A : Type 0} (key : A → ℕ) (xs : List A) → IsAscendingBy key xs → AreDistinct key xs
distinct_ascending key [] up = tt
distinct_ascending key (x ∷ xs) up = (absent_behind key (key x) xs up.0, distinct_ascending key xs up.1)

-- the first element of an ascending list with a look-up of its own
first_or_above : {A : Type 0} (key : A → ℕ) (y : A) (ys : List A) (x : A) → All (λ z. key y < key z) ys → with_key key (key x) (y ∷ ys) ≡ Some x → (y ≡ x) ⊎ (key y < key x)
first_or_above key y ys x above is = elim (here_or_later (eqb (key y) (key x)) y x (with_key key (key x) ys) is) [
  | inl w ↦ inl w.1
  | inr w ↦ inr (found_all (λ z. key y < key z) key (key x) ys x above w.1)
]

finds_first : {A : Type 0} (key : A → ℕ) (x : A) (xs : List A) → with_key key (key x) (x ∷ xs) ≡ Some x
finds_first key x xs = cond-true (eqb (key x) (key x)) (Some x) (with_key key (key x) xs) (eq-eqb (key x) (key x) refl)

same_first : {A : Type 0} (key : A → ℕ) (x y : A) → ((y ≡ x) ⊎ (key y < key x)) → ((x ≡ y) ⊎ (key x < key y)) → x ≡ y
same_first key x y (inl is) other = sym is
same_first key x y (inr below) (inl is) = is
same_first key x y (inr below) (inr above) = absurd (omega (arith, below, above))

-- ascending lists with the same look-ups are equal
pub same_list : {A : Type 0} (key : A → ℕ) (xs ys : List A) → IsAscendingBy key xs → IsAscendingBy key ys → ((id : ℕ) → with_key key id xs ≡ with_key key id ys) → xs ≡ ys
same_list key [] [] up_xs up_ys same = refl
same_list key [] (y ∷ ys) up_xs up_ys same = absurd (grind (arith, same (key y), finds_first key y ys))
same_list key (x ∷ xs) [] up_xs up_ys same = absurd (grind (arith, same (key x), finds_first key x xs))
same_list key (x ∷ xs) (y ∷ ys) up_xs up_ys same =
    let is = same_first key x y
    (first_or_above key y ys x up_ys.0 (sym (same (key x)) ∙ finds_first key x xs))
    (first_or_above key x xs y up_xs.0 (same (key y) ∙ finds_first key y ys)) in
    ap₂ ◌∷◌ is (same_list key xs ys up_xs.1 up_ys.1 (λ id. elim (cases_Bool (eqb (key x) id)) [
      | inl here ↦
          let at = eqb-true (key x) id here in
          subst (λ k. with_key key k xs ≡ None) at (absent_behind key (key x) xs up_xs.0)
          ∙ sym (subst (λ k. with_key key k ys ≡ None) (sym (ap key is) ∙ at) (absent_behind key (key y) ys up_ys.0))
      | inr away ↦
          sym (cond-false (eqb (key x) id) (Some x) (with_key key id xs) away) ∙ same id
          ∙ cond-false (eqb (key y) id) (Some y) (with_key key id ys) (subst (λ z. eqb (key z) id ≡ false) is away)
    ]))

-- so ascending lists with the same elements are equal
pub same_by_permutation : {A : Type 0} (key : A → ℕ) (xs ys : List A) → IsAscendingBy key xs → IsAscendingBy key ys → IsPermutation xs ys → xs ≡ ys
same_by_permutation key xs ys up_xs up_ys same = same_list key xs ys up_xs up_ys (λ id. sym (same_row key xs ys id (distinct_ascending key xs up_xs) same))
