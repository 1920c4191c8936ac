-- Lists whose elements are found by a number, their key.
use Rattle.std.proofs.Common.{◌≡◌, ℕ, Bool, true, false, eqb, cond, List, [], ◌∷◌, ◌++◌, Option, Some, None, inl, inr, refl, subst, arith}
use mathlib.Core.Logic.{◌⊎◌}
use Rattle.std.specs.List.{find, All}
use Rattle.std.proofs.lemmas.Bool.Decides.{nat_tests}
use Rattle.std.proofs.lemmas.Bool.{eq-eqb}
use Rattle.std.proofs.lemmas.Option.{same_Some}
use Rattle.std.proofs.lemmas.List.Elements.{All-nil, All-cons, All-head, All-tail, All-weaker}
use Rattle.records.specs.FirstOf.{or_else}

-- the first element with this key
abbrev pub with_key : {A : Type 0} → (A → ℕ) → ℕ → List A → Option A
with_key key id xs = find (λ x. eqb (key x) id) xs

-- each key once
abbrev pub AreDistinct : {A : Type 0} → (A → ℕ) → List A → Type 0
AreDistinct key [] = Unit {0}
AreDistinct key (x ∷ xs) = (with_key key (key x) xs ≡ None) × AreDistinct key xs

-- where the first element with a key stands
pub here_or_later : {A : Type 0} (b : Bool) (y x : A) (rest : Option A) → cond b (Some y) rest ≡ Some x → ((b ≡ true) × (y ≡ x)) ⊎ ((b ≡ false) × (rest ≡ Some x))
here_or_later true y x rest h = inl (refl, same_Some y x h)
here_or_later false y x rest h = inr (refl, h)

pub not_later : {A : Type 0} (b : Bool) (y : A) (rest : Option A) → cond b (Some y) rest ≡ None → (b ≡ false) × (rest ≡ None)
not_later true y rest h = absurd (grind arith)
not_later false y rest h = (refl, h)

-- what is found has the key, and what holds of all
pub found_key : {A : Type 0} (key : A → ℕ) (id : ℕ) (xs : List A) (x : A) → with_key key id xs ≡ Some x → key x ≡ id
found_key key id [] x h = grind arith
found_key key id (y ∷ ys) x h = grind (arith, nat_tests, found_key key id ys x)

pub found_all : {A : Type 0} (P : A → Type 0) (key : A → ℕ) (id : ℕ) (xs : List A) (x : A) → All P xs → with_key key id xs ≡ Some x → P x
found_all P key id [] x all h = grind arith
found_all P key id (y ∷ ys) x all h =
    elim (here_or_later (eqb (key y) id) y x (with_key key id ys) h) [ inl w ↦ subst P w.1 (All-head P y ys all) | inr w ↦ found_all P key id ys x (All-tail P y ys all) w.1 ]

-- a key that no element has is none that one has
pub absent_other : {A : Type 0} (key : A → ℕ) (absent id : ℕ) (xs : List A) (x : A) → with_key key absent xs ≡ None → with_key key id xs ≡ Some x → eqb absent id ≡ false
absent_other key absent id xs x none found = grind (arith, nat_tests)

old_or_new : {A : Type 0} (old : Option A) (b : Bool) (y x : A) → or_else old (cond b (Some y) None) ≡ Some x → (old ≡ Some x) ⊎ ((old ≡ None) × (y ≡ x))
old_or_new (Some z) b y x h = inl h
old_or_new None true y x h = inr (refl, same_Some y x h)
old_or_new None false y x h = absurd (grind arith)

-- the first element with a key, in a list of one element more
pub find_push : {A : Type 0} (key : A → ℕ) (id : ℕ) (xs : List A) (y : A) → with_key key id (xs ++ y ∷ []) ≡ or_else (with_key key id xs) (cond (eqb (key y) id) (Some y) None)
find_push key id [] y = refl
find_push key id (x ∷ xs) y = grind (arith, find_push key id xs y)

pub found_push : {A : Type 0} (key : A → ℕ) (id : ℕ) (xs : List A) (y x : A) → with_key key id (xs ++ y ∷ []) ≡ Some x → (with_key key id xs ≡ Some x) ⊎ ((with_key key id xs ≡ None) × (y ≡ x))
found_push key id xs y x h = old_or_new (with_key key id xs) (eqb (key y) id) y x (rw find_push at h)

pub find_push_some : {A : Type 0} (key : A → ℕ) (id : ℕ) (xs : List A) (y x : A) → with_key key id xs ≡ Some x → with_key key id (xs ++ y ∷ []) ≡ Some x
find_push_some key id xs y x h = grind (arith, find_push key id xs y)

pub find_push_none : {A : Type 0} (key : A → ℕ) (id : ℕ) (xs : List A) (y : A) → with_key key id (xs ++ y ∷ []) ≡ None → (with_key key id xs ≡ None) × (eqb (key y) id ≡ false)
find_push_none key id xs y h = grind (arith, nat_tests, find_push key id xs y)

pub find_push_absent : {A : Type 0} (key : A → ℕ) (id : ℕ) (xs : List A) (y : A) → with_key key id xs ≡ None → eqb (key y) id ≡ false → with_key key id (xs ++ y ∷ []) ≡ None
find_push_absent key id xs y h n = grind (arith, find_push key id xs y)

pub other_way : (a b : ℕ) → eqb a b ≡ false → eqb b a ≡ false
other_way a b h = grind (arith, nat_tests)

-- an element with a new key keeps the keys distinct
pub distinct_push : {A : Type 0} (key : A → ℕ) (xs : List A) (y : A) → AreDistinct key xs → with_key key (key y) xs ≡ None → AreDistinct key (xs ++ y ∷ [])
distinct_push key [] y d h = (refl, tt)
distinct_push key (x ∷ xs) y d h =
    let away = not_later (eqb (key x) (key y)) x (with_key key (key y) xs) h in
    (find_push_absent key (key x) xs y d.0 (other_way (key x) (key y) away.0), distinct_push key xs y d.1 away.1)

-- in a list with distinct keys each element is the one with its key
kept_behind : {A : Type 0} (key : A → ℕ) (x : A) (xs : List A) → with_key key (key x) xs ≡ None → All (λ y. with_key key (key y) xs ≡ Some y) xs → All (λ y. with_key key (key y) (x ∷ xs) ≡ Some y) xs
kept_behind key x xs none all = All-weaker (λ y. with_key key (key y) xs ≡ Some y) (λ y. with_key key (key y) (x ∷ xs) ≡ Some y) (λ y found. rw (absent_other key (key x) (key y) xs y none found) found) xs all

pub found_itself : {A : Type 0} (key : A → ℕ) (xs : List A) → AreDistinct key xs → All (λ x. with_key key (key x) xs ≡ Some x) xs
found_itself key [] d = All-nil (λ x. with_key key (key x) [] ≡ Some x)
found_itself key (x ∷ xs) d = All-cons (λ y. with_key key (key y) (x ∷ xs) ≡ Some y) x xs (rw (eq-eqb (key x) (key x) refl) refl) (kept_behind key x xs d.0 (found_itself key xs d.1))
