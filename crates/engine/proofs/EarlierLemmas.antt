-- Lists in order of a number of their elements, and the elements below a bound.
use Rattle.std.proofs.Common.{◌≡◌, ◌<◌, ◌≤◌, ◌+◌, ℕ, suc, true, false, ltb, eqb, List, [], ◌∷◌, ◌++◌, append-nil, Some, None, inl, inr, refl, ap, ◌∙◌, subst, arith}
use Rattle.std.specs.List.{filter, All, AllPairs}
use Rattle.std.specs.Option.{option_to_list}
use Rattle.std.proofs.lemmas.Bool.{ltb-true, lt-ltb, cases_lt}
use Rattle.std.proofs.lemmas.Bool.Decides.{nat_tests}
use Rattle.std.proofs.lemmas.List.Elements.{All-nil, All-cons, All-head, All-tail, All-weaker, filter-append, filter_passes}
use Rattle.engine.proofs.FindByIdLemmas.{with_key, here_or_later, found_all, found_key}

-- the elements whose number is below a bound
abbrev pub below : {A : Type 0} → (A → ℕ) → ℕ → List A → List A
below key bound xs = filter (λ x. ltb (key x) bound) xs

-- two facts of each element
pub All-both : {A : Type 0} (P Q : A → Type 0) (xs : List A) → All P xs → All Q xs → All (λ x. P x × Q x) xs
All-both P Q xs p q k d h = (p k d h, q k d h)

-- the first element beside all later ones, and those beside one another
pub pairs_head : {A : Type 0} (R : A → A → Type 0) (x : A) (xs : List A) → AllPairs R (x ∷ xs) → All (R x) xs
pairs_head R x xs h k d within = h 0 (suc k) d (omega arith) (omega arith)

pub pairs_tail : {A : Type 0} (R : A → A → Type 0) (x : A) (xs : List A) → AllPairs R (x ∷ xs) → AllPairs R xs
pairs_tail R x xs h i j d less within = h (suc i) (suc j) d (omega arith) (omega arith)

-- what holds of the parts of a list
pub all_right : {A : Type 0} (P : A → Type 0) (xs ys : List A) → All P (xs ++ ys) → All P ys
all_right P [] ys h = h
all_right P (x ∷ xs) ys h = all_right P xs ys (All-tail P x (xs ++ ys) h)

pub all_left : {A : Type 0} (P : A → Type 0) (xs ys : List A) → All P (xs ++ ys) → All P xs
all_left P [] ys h = All-nil P
all_left P (x ∷ xs) ys h = All-cons P x xs (All-head P x (xs ++ ys) h) (all_left P xs ys (All-tail P x (xs ++ ys) h))

-- an element beside all earlier ones
pub pairs_before : {A : Type 0} (R : A → A → Type 0) (xs : List A) (y : A) (ys : List A) → AllPairs R (xs ++ y ∷ ys) → All (λ x. R x y) xs
pairs_before R [] y ys h = All-nil (λ x. R x y)
pairs_before R (x ∷ xs) y ys h = All-cons (λ z. R z y) x xs (All-head (R x) y ys (all_right (R x) xs (y ∷ ys) (pairs_head R x (xs ++ y ∷ ys) h))) (pairs_before R xs y ys (pairs_tail R x (xs ++ y ∷ ys) h))

-- all are below the bound, or none
pub below_all : {A : Type 0} (key : A → ℕ) (bound : ℕ) (xs : List A) → All (λ x. key x < bound) xs → below key bound xs ≡ xs
below_all key bound [] h = refl
below_all key bound (x ∷ xs) h = rw (lt-ltb (key x) bound (All-head (λ y. key y < bound) x xs h)) (ap (λ ys. x ∷ ys) (below_all key bound xs (All-tail (λ y. key y < bound) x xs h)))

pub not_below : (a b : ℕ) → b ≤ a → ltb a b ≡ false
not_below a b h = grind (arith, nat_tests)

pub below_none : {A : Type 0} (key : A → ℕ) (bound : ℕ) (xs : List A) → All (λ x. bound ≤ key x) xs → below key bound xs ≡ []
below_none key bound [] h = refl
below_none key bound (x ∷ xs) h = rw (not_below (key x) bound (All-head (λ y. bound ≤ key y) x xs h)) (below_none key bound xs (All-tail (λ y. bound ≤ key y) x xs h))

-- what is kept is below the bound
pub below_is_below : {A : Type 0} (key : A → ℕ) (bound : ℕ) (xs : List A) → All (λ x. key x < bound) (below key bound xs)
below_is_below key bound xs = All-weaker (λ x. ltb (key x) bound ≡ true) (λ x. key x < bound) (λ x h. ltb-true (key x) bound h) (below key bound xs) (filter_passes (λ x. ltb (key x) bound) xs)

-- an element that is not below the bound changes nothing
pub below_push : {A : Type 0} (key : A → ℕ) (bound : ℕ) (xs : List A) (y : A) → bound ≤ key y → below key bound (xs ++ y ∷ []) ≡ below key bound xs
below_push key bound xs y h = filter-append (λ x. ltb (key x) bound) xs (y ∷ []) ∙ rw (not_below (key y) bound h) (append-nil (below key bound xs))

other : (a b : ℕ) → b < a → eqb a b ≡ false
other a b h = grind (arith, nat_tests)

away : (a b : ℕ) → a < b → eqb a b ≡ false
away a b h = grind (arith, nat_tests)

here : (a b : ℕ) → b ≤ a → a ≤ b → eqb a b ≡ true
here a b h k = grind (arith, nat_tests)

not_itself : (a b : ℕ) → eqb a b ≡ true → b < a → ⊥
not_itself a b h less = grind (arith, nat_tests)

behind : (a b c : ℕ) → a < b → b ≡ c → c < a → ⊥
behind a b c h same less = omega arith

none_with_key : {A : Type 0} (key : A → ℕ) (bound : ℕ) (xs : List A) → All (λ x. bound < key x) xs → with_key key bound xs ≡ None
none_with_key key bound [] h = refl
none_with_key key bound (x ∷ xs) h = rw (other (key x) bound (All-head (λ y. bound < key y) x xs h)) (none_with_key key bound xs (All-tail (λ y. bound < key y) x xs h))

-- where numbers rise, the next bound lets in the one element that has it
pub below_next : {A : Type 0} (key : A → ℕ) (bound : ℕ) (xs : List A) → AllPairs (λ x y. key x < key y) xs → below key (bound + 1) xs ≡ below key bound xs ++ option_to_list (with_key key bound xs)
below_next key bound [] rise = refl
below_next {A} key bound (x ∷ xs) rise =
    let later = pairs_head (λ (y : A) (z : A). key y < key z) x xs rise in
    let rest = below_next key bound xs (pairs_tail (λ (y : A) (z : A). key y < key z) x xs rise) in
    elim (cases_lt (key x) bound) [
      | inl less ↦ rw (lt-ltb (key x) bound less, lt-ltb (key x) (bound + 1) (omega arith), away (key x) bound less) (ap (λ ys. x ∷ ys) rest)
      | inr past ↦ elim (cases_lt bound (key x)) [
        | inl more ↦ rw (not_below (key x) bound past, not_below (key x) (bound + 1) (omega arith), other (key x) bound more, below_none key bound xs (All-weaker (λ y. key x < key y) (λ y. bound ≤ key y) (λ y h. omega arith) xs later), below_none key (bound + 1) xs (All-weaker (λ y. key x < key y) (λ y. bound + 1 ≤ key y) (λ y h. omega arith) xs later), none_with_key key bound xs (All-weaker (λ y. key x < key y) (λ y. bound < key y) (λ y h. omega arith) xs later)) refl
        | inr same ↦ rw (not_below (key x) bound past, lt-ltb (key x) (bound + 1) (omega arith), here (key x) bound past same, below_none key bound xs (All-weaker (λ y. key x < key y) (λ y. bound ≤ key y) (λ y h. omega arith) xs later), below_none key (bound + 1) xs (All-weaker (λ y. key x < key y) (λ y. bound + 1 ≤ key y) (λ y h. omega arith) xs later)) refl
      ]
    ]

-- where numbers rise and values never fall, an element of a greater number has no lesser value
pub never_less : {A : Type 0} (key value : A → ℕ) (bound : ℕ) (xs : List A) (t : A) → AllPairs (λ x y. key x < key y) xs → AllPairs (λ x y. value x ≤ value y) xs → with_key key bound xs ≡ Some t → All (λ u. bound < key u → value t ≤ value u) xs
never_less key value bound [] t rise keep found = All-nil (λ u. bound < key u → value t ≤ value u)
never_less {A} key value bound (x ∷ xs) t rise keep found =
    let later = pairs_head (λ (y : A) (z : A). key y < key z) x xs rise in
    let above = pairs_head (λ (y : A) (z : A). value y ≤ value z) x xs keep in
    elim (here_or_later (eqb (key x) bound) x t (with_key key bound xs) found) [
      | inl w ↦ All-cons (λ u. bound < key u → value t ≤ value u) x xs (λ less. absurd (not_itself (key x) bound w.0 less)) (subst (λ (y : A). All (λ u. bound < key u → value y ≤ value u) xs) w.1 (All-weaker (λ u. value x ≤ value u) (λ u. bound < key u → value x ≤ value u) (λ u h less. h) xs above))
      | inr w ↦ All-cons (λ u. bound < key u → value t ≤ value u) x xs (λ less. absurd (behind (key x) (key t) bound (found_all (λ y. key x < key y) key bound xs t later w.1) (found_key key bound xs t w.1) less)) (never_less key value bound xs t (pairs_tail (λ (y : A) (z : A). key y < key z) x xs rise) (pairs_tail (λ (y : A) (z : A). value y ≤ value z) x xs keep) w.1)
    ]
