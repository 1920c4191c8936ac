-- Tests, counts and sums over a list: of one element more, of equal or lesser terms, and of terms that
-- differ at one key.
use Rattle.std.proofs.Common.{◌≡◌, ◌≤◌, ◌+◌, ℕ, Bool, false, ◌||◌, eqb, cond, List, [], ◌∷◌, ◌++◌, Some, None, inl, inr, refl, arith}
use Rattle.std.specs.List.{list_any, sum_by, count_by, All}
use Rattle.std.proofs.lemmas.Bool.{eqb-true}
use Rattle.std.proofs.lemmas.List.Elements.{All-head, All-tail}
use Rattle.std.proofs.lemmas.List.Sums.{sum_by-cons}
use Rattle.engine.proofs.FindByIdLemmas.{with_key, AreDistinct, here_or_later}

-- a test of one element more
pub any_push : {A : Type 0} (p : A → Bool) (xs : List A) (y : A) → list_any p (xs ++ y ∷ []) ≡ (list_any p xs || p y)
any_push p [] y = grind arith
any_push p (x ∷ xs) y = grind (arith, any_push p xs y)

-- where no element passes either test, none counts
pub count_none : {A : Type 0} (p q : A → Bool) (xs : List A) → list_any p xs ≡ false → list_any q xs ≡ false → count_by (λ x. p x || q x) xs ≡ 0
count_none p q [] h k = refl
count_none p q (x ∷ xs) h k = grind (arith, count_none p q xs, sum_by-cons (λ x. cond {A = ℕ} (p x || q x) 1 0) x xs)

-- sums of equal terms, of lesser terms, of nothing
pub sum_same : {A : Type 0} (f g : A → ℕ) (xs : List A) → ((x : A) → f x ≡ g x) → sum_by f xs ≡ sum_by g xs
sum_same f g [] h = refl
sum_same f g (x ∷ xs) h = grind (arith, sum_same f g xs h, sum_by-cons f x xs, sum_by-cons g x xs, h x)

pub sum_least : {A : Type 0} (f g : A → ℕ) (xs : List A) → ((x : A) → f x ≤ g x) → sum_by f xs ≤ sum_by g xs
sum_least f g [] h = omega arith
sum_least f g (x ∷ xs) h = grind (arith, sum_least f g xs h, sum_by-cons f x xs, sum_by-cons g x xs, h x)

pub sum_zero : {A : Type 0} (f : A → ℕ) (xs : List A) → All (λ x. f x ≡ 0) xs → sum_by f xs ≡ 0
sum_zero f [] h = refl
sum_zero f (x ∷ xs) h = grind (arith, sum_zero f xs (All-tail (λ x. f x ≡ 0) x xs h), sum_by-cons f x xs, All-head (λ x. f x ≡ 0) x xs h)

-- the sums of functions that differ at one key which no element has
pub sum_unchanged : {A : Type 0} (key : A → ℕ) (id : ℕ) (f g : A → ℕ) (xs : List A) → ((x : A) → eqb (key x) id ≡ false → f x ≡ g x) → with_key key id xs ≡ None → sum_by f xs ≡ sum_by g xs
sum_unchanged key id f g [] same none = refl
sum_unchanged key id f g (x ∷ xs) same none = grind (arith, sum_unchanged key id f g xs same, sum_by-cons f x xs, sum_by-cons g x xs, same x)

-- and at one key which one element has
pub one_changed : {A : Type 0} (key : A → ℕ) (id : ℕ) (f g : A → ℕ) (xs : List A) (p : A) → ((x : A) → eqb (key x) id ≡ false → f x ≡ g x) → AreDistinct key xs → with_key key id xs ≡ Some p → sum_by f xs + g p ≡ sum_by g xs + f p
one_changed key id f g [] p same d found = grind arith
one_changed key id f g (x ∷ xs) p same d found =
    elim (here_or_later (eqb (key x) id) x p (with_key key id xs) found) [
      | inl w ↦ let rest = sum_unchanged key id f g xs same (rw (eqb-true (key x) id w.0) at d.0) in grind (arith, rest, w.1, sum_by-cons f x xs, sum_by-cons g x xs)
      | inr w ↦ grind (arith, one_changed key id f g xs p same d.1 w.1, same x w.0, sum_by-cons f x xs, sum_by-cons g x xs)
    ]
