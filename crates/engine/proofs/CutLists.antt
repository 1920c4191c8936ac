-- Lists in order of a number, cut by it and by what is asked for.
use Rattle.std.proofs.Common.{◌≡◌, ◌<◌, ◌≤◌, ◌+◌, ◌&&◌, ℕ, Bool, true, false, nat_le, ltb, cond, List, [], ◌∷◌, ◌++◌, length, Some, None, refl, ap, arith}
use Rattle.std.specs.List.{All, filter, last_or}
use Rattle.std.proofs.lemmas.Bool.{lt-ltb}
use Rattle.std.proofs.lemmas.Bool.Decides.{nat_tests}
use Rattle.std.proofs.lemmas.List.Elements.{All-head, All-tail, All-weaker, All-filter}
use Rattle.engine.proofs.EarlierLemmas.{below, below_none, all_right}
use Rattle.engine.proofs.ValidMachineLemmas.{AreAscending}

-- one test behind another one is the other behind the one
swap_by : {A : Type 0} (p q : A → Bool) (b c : Bool) (x : A) (xs : List A) → p x ≡ b → q x ≡ c → filter p (filter q xs) ≡ filter q (filter p xs) → filter p (cond c (x ∷ filter q xs) (filter q xs)) ≡ filter q (cond b (x ∷ filter p xs) (filter p xs))
swap_by p q true true x xs is_p is_q same = rw (is_p, is_q) (ap (λ ys. x ∷ ys) same)
swap_by p q true false x xs is_p is_q same = rw is_q same
swap_by p q false true x xs is_p is_q same = rw is_p same
swap_by p q false false x xs is_p is_q same = same

pub filter_swap : {A : Type 0} (p q : A → Bool) (xs : List A) → filter p (filter q xs) ≡ filter q (filter p xs)
filter_swap p q [] = refl
filter_swap p q (x ∷ xs) = swap_by p q (p x) (q x) x xs refl refl (filter_swap p q xs)

-- a test that all pass
pub filter_all : {A : Type 0} (p : A → Bool) (xs : List A) → All (λ x. p x ≡ true) xs → filter p xs ≡ xs
filter_all p [] all = refl
filter_all p (x ∷ xs) all = rw (All-head (λ y. p y ≡ true) x xs all) (ap (λ ys. x ∷ ys) (filter_all p xs (All-tail (λ y. p y ≡ true) x xs all)))

-- what is kept of a list in order is in order
ascending_by : {A : Type 0} (key : A → ℕ) (x : A) (xs ys : List A) (b : Bool) → All (λ y. key x < key y) ys → AreAscending key ys → AreAscending key (cond b (x ∷ ys) ys)
ascending_by key x xs ys true later ascending = (later, ascending)
ascending_by key x xs ys false later ascending = ascending

pub ascending_filter : {A : Type 0} (key : A → ℕ) (p : A → Bool) (xs : List A) → AreAscending key xs → AreAscending key (filter p xs)
ascending_filter key p [] ascending = tt
ascending_filter key p (x ∷ xs) ascending = ascending_by key x xs (filter p xs) (p x) (All-filter p (λ y. key x < key y) xs ascending.0) (ascending_filter key p xs ascending.1)

-- what is not behind an element of a list in order is all up to it
pub cut_behind : {A : Type 0} (key : A → ℕ) (before : List A) (x : A) (behind : List A) → AreAscending key (before ++ x ∷ behind) → below key (key x + 1) (before ++ x ∷ behind) ≡ before ++ x ∷ []
cut_behind {A} key [] x behind ascending = rw (lt-ltb (key x) (key x + 1) (omega arith), below_none key (key x + 1) behind (All-weaker (λ (y : A). key x < key y) (λ (y : A). key x + 1 ≤ key y) (λ y h. omega arith) behind ascending.0)) refl
cut_behind {A} key (y ∷ before) x behind ascending =
    let less : key y < key x = All-head (λ (z : A). key y < key z) x behind (all_right (λ (z : A). key y < key z) before (x ∷ behind) ascending.0) in
    rw (lt-ltb (key y) (key x + 1) (omega arith)) (ap (λ ys. y ∷ ys) (cut_behind key before x behind ascending.1))

-- a list in order that ends by a number is what is below a bound, and then what is from it on
within_yes : (n last time : ℕ) → n ≤ time → time ≤ last → (nat_le n time && nat_le time last) ≡ true
within_yes n last time from by = grind (arith, nat_tests)

within_no : (n last time : ℕ) → time < n → (nat_le n time && nat_le time last) ≡ false
within_no n last time less = grind (arith, nat_tests)

split_by : {A : Type 0} (key : A → ℕ) (n last : ℕ) (x : A) (xs : List A) (b : Bool) → ltb (key x) n ≡ b → AreAscending key (x ∷ xs) → All (λ y. key y ≤ last) (x ∷ xs) → below key n xs ++ filter (λ y. nat_le n (key y) && nat_le (key y) last) xs ≡ xs → below key n (x ∷ xs) ++ filter (λ y. nat_le n (key y) && nat_le (key y) last) (x ∷ xs) ≡ x ∷ xs
split_by key n last x xs true is ascending by same = rw (is, within_no n last (key x) (grind (arith, nat_tests))) (ap (λ ys. x ∷ ys) same)
split_by {A} key n last x xs false is ascending by same =
    let from : n ≤ key x = grind (arith, nat_tests) in
    let later = All-weaker (λ (y : A). key x < key y) (λ (y : A). n ≤ key y) (λ y h. omega arith) xs ascending.0 in
    let ends = All-tail (λ (y : A). key y ≤ last) x xs by in
    rw (is, below_none key n xs later, within_yes n last (key x) from (All-head (λ (y : A). key y ≤ last) x xs by)) (ap (λ ys. x ∷ ys) (filter_all (λ y. nat_le n (key y) && nat_le (key y) last) xs (λ k d h. within_yes n last _ (later k d h) (ends k d h))))

pub split_at : {A : Type 0} (key : A → ℕ) (n last : ℕ) (xs : List A) → AreAscending key xs → All (λ y. key y ≤ last) xs → below key n xs ++ filter (λ y. nat_le n (key y) && nat_le (key y) last) xs ≡ xs
split_at key n last [] ascending by = refl
split_at {A} key n last (x ∷ xs) ascending by = split_by key n last x xs (ltb (key x) n) refl ascending by (split_at key n last xs ascending.1 (All-tail (λ (y : A). key y ≤ last) x xs by))

-- a list that is not empty has a last element
pub record HasLast {A : Type 0} (xs : List A) : Type 0 where
  pub before : List A
  pub last : A
  pub are : xs ≡ before ++ last ∷ []
  pub is : last_or None xs ≡ Some last

last_behind : {A : Type 0} (x : A) (xs : List A) → HasLast (x ∷ xs)
last_behind x [] = record { before = []; last = x; are = refl; is = refl }
last_behind x (y ∷ xs) = let rest = last_behind y xs in record { before = x ∷ rest.before; last = rest.last; are = ap (λ ys. x ∷ ys) rest.are; is = rest.is }

pub has_last : {A : Type 0} (xs : List A) → 0 < length xs → HasLast xs
has_last [] some = absurd (omega arith)
has_last (x ∷ xs) some = last_behind x xs
