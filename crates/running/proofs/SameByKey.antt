-- Rows with the same look-ups, told apart by their keys, are the same rows.
use Rattle.std.proofs.Common.{◌≡◌, ◌<◌, ℕ, Bool, false, eqb, cond, List, [], ◌∷◌, ◌++◌, Some, None, inl, inr, refl, sym, ap, ◌∙◌, subst, arith, eq-eqb}
use Rattle.std.specs.List.{All}
use Rattle.std.specs.List.Sorted.{IsPermutation}
use Rattle.std.proofs.lemmas.Bool.{cases_Bool, eqb-true}
use Rattle.std.proofs.lemmas.Bool.Decides.{nat_tests}
use Rattle.std.proofs.lemmas.List.Elements.{All-head, All-tail}
use Rattle.std.proofs.lemmas.List.Sorted.{IsPermutation-refl, IsPermutation-trans, IsPermutation-cons, IsPermutation-middle}
use Rattle.engine.proofs.ValidMachineLemmas.{AreDistinct, here_or_later, not_later}
use Rattle.rows.specs.Keyed.{row_with}
use Rattle.rows.specs.Tables.{IsAscendingBy}

-- the row with a key, with the rows before and behind it
record Split {A : Type 0} (xs : List A) (y : A) : Type 0 where
  before : List A
  after : List A
  is : xs ≡ before ++ y ∷ after

split : {A : Type 0} (key : A → ℕ) (id : ℕ) (xs : List A) (y : A) → row_with key id xs ≡ Some y → Split xs y
split key id [] y found = absurd cc
split key id (x ∷ xs) y found = elim (here_or_later (eqb (key x) id) x y (row_with key id xs) found) [
  | inl w ↦ record { before = []; after = xs; is = ap (λ z. z ∷ xs) w.1 }
  | inr w ↦ let rest = split key id xs y w.1 in record { before = x ∷ rest.before; after = rest.after; is = ap (λ zs. x ∷ zs) rest.is }
]

-- without it, other look-ups stay
others_stay : {A : Type 0} (key : A → ℕ) (id : ℕ) (before : List A) (y : A) (after : List A) → eqb (key y) id ≡ false → row_with key id (before ++ y ∷ after) ≡ row_with key id (before ++ after)
others_stay key id [] y after away = ap (λ (b : Bool). cond b (Some y) (row_with key id after)) away
others_stay key id (x ∷ before) y after away = ap (λ o. cond (eqb (key x) id) (Some x) o) (others_stay key id before y after away)

-- a key that none has is not that of the one in the middle
absent_middle : {A : Type 0} (key : A → ℕ) (id : ℕ) (before : List A) (y : A) (after : List A) → row_with key id (before ++ y ∷ after) ≡ None → eqb (key y) id ≡ false
absent_middle key id [] y after none = (not_later (eqb (key y) id) y (row_with key id after) none).0
absent_middle key id (x ∷ before) y after none = absent_middle key id before y after (not_later (eqb (key x) id) x (row_with key id (before ++ y ∷ after)) none).1

flipped : (a b : ℕ) → eqb a b ≡ eqb b a
flipped a b = grind (arith, nat_tests)

-- without it, its key is gone, and the others are told apart
own_gone : {A : Type 0} (key : A → ℕ) (before : List A) (y : A) (after : List A) → AreDistinct key (before ++ y ∷ after) → row_with key (key y) (before ++ after) ≡ None
own_gone key [] y after d = d.0
own_gone key (x ∷ before) y after d =
    let away = flipped (key x) (key y) ∙ absent_middle key (key x) before y after d.0 in
    ap (λ (b : Bool). cond b (Some x) (row_with key (key y) (before ++ after))) away ∙ own_gone key before y after d.1

rest_apart : {A : Type 0} (key : A → ℕ) (before : List A) (y : A) (after : List A) → AreDistinct key (before ++ y ∷ after) → AreDistinct key (before ++ after)
rest_apart key [] y after d = d.1
rest_apart key (x ∷ before) y after d =
    (sym (others_stay key (key x) before y after (absent_middle key (key x) before y after d.0)) ∙ d.0, rest_apart key before y after d.1)

-- nothing behind the first of ascending rows has its key
absent_behind : {A : Type 0} (key : A → ℕ) (id : ℕ) (xs : List A) → All (λ other. id < key other) xs → row_with key id xs ≡ None
absent_behind key id [] above = refl
absent_behind key id (x ∷ xs) above =
    ap (λ (b : Bool). cond b (Some x) (row_with key id xs)) (apart (key x) id (All-head (λ other. id < key other) x xs above)) ∙ absent_behind key id xs (All-tail (λ other. id < key other) x xs above)
  where
    apart : (k id : ℕ) → id < k → eqb k id ≡ false
    apart k id less = grind (arith, nat_tests)

finds_first : {A : Type 0} (key : A → ℕ) (x : A) (xs : List A) → row_with key (key x) (x ∷ xs) ≡ Some x
finds_first key x xs = ap (λ (b : Bool). cond b (Some x) (row_with key (key x) xs)) (eq-eqb (key x) (key x) refl)

-- the look-ups behind the first
behind : {A : Type 0} (key : A → ℕ) (id : ℕ) (xs : List A) (y : A) (ys : List A) (s : Split xs y) → AreDistinct key xs → IsAscendingBy key (y ∷ ys) → row_with key id xs ≡ row_with key id (y ∷ ys) → row_with key id (s.before ++ s.after) ≡ row_with key id ys
behind key id xs y ys s d up same = elim (cases_Bool (eqb (key y) id)) [
  | inl here ↦
      let at = eqb-true (key y) id here in
      let gone = own_gone key s.before y s.after (subst (AreDistinct key) s.is d) in
      subst (λ k. row_with key k (s.before ++ s.after) ≡ None) at gone ∙ sym (subst (λ k. row_with key k ys ≡ None) at (absent_behind key (key y) ys up.0))
  | inr away ↦
      sym (ap (row_with key id) s.is ∙ others_stay key id s.before y s.after away) ∙ same ∙ ap (λ (b : Bool). cond b (Some y) (row_with key id ys)) away
]

pub same_by_key : {A : Type 0} (key : A → ℕ) (xs ys : List A) → AreDistinct key xs → IsAscendingBy key ys → ((id : ℕ) → row_with key id xs ≡ row_with key id ys) → IsPermutation xs ys
same_by_key key [] [] d up same = IsPermutation-refl []
same_by_key key (x ∷ xs) [] d up same = let found = sym (finds_first key x xs) ∙ same (key x) in absurd cc
same_by_key key xs (y ∷ ys) d up same =
    let s = split key (key y) xs y (same (key y) ∙ finds_first key y ys) in
    let rest = same_by_key key (s.before ++ s.after) ys (rest_apart key s.before y s.after (subst (AreDistinct key) s.is d)) up.1 (λ id. behind key id xs y ys s d up (same id)) in
    IsPermutation-trans xs (y ∷ (s.before ++ s.after)) (y ∷ ys)
    (subst (λ zs. IsPermutation zs (y ∷ (s.before ++ s.after))) (sym s.is) (IsPermutation-middle s.before y s.after))
    (IsPermutation-cons y (s.before ++ s.after) ys rest)
