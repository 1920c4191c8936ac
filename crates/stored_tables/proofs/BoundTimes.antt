-- Lists in order, cut and turned, and times behind a bound.
use Rattle.std.proofs.Common.{◌≡◌, ℕ, zero, suc, ◌≤◌, pos, Bool, true, false, ◌&&◌, ltb, cond, List, [], ◌∷◌, ◌++◌, map, filter, take, reverse, refl, sym, ap, ◌∙◌, arith, inl, inr}
use Rattle.std.specs.List.{AllByRecursion}
use Rattle.std.specs.Ordering.{is_ge, is_le}
use Rattle.std.specs.declared.cmp.Ordering.TheVariants.{Less, Equal, Greater}
use Rattle.std.proofs.lemmas.Bool.{cases_Bool, both_ways, ltb-true, ltb-false}
use Rattle.std.proofs.lemmas.Bool.Decides.{nat_tests}
use Rattle.std.proofs.lemmas.List.{reverse-append, append-nil}
use Rattle.std.proofs.lemmas.List.{map-append}
use Rattle.std.proofs.lemmas.List.Elements.{filter-append, filter_passes, recursion_from_All}
use Rattle.sqlite_value.specs.declared.value.Value.TheVariants.{Int}
use Rattle.sqlite_trees.specs.Tree.{IsAscending}
use Rattle.sqlite_trees.proofs.ListLemmas.{all_weaker}
use Rattle.ledger_sql.specs.TableRows.{is_from, is_until}

-- ---- lists

pub filter-reverse : {A : Type 0} (p : A → Bool) (xs : List A) → filter p (reverse xs) ≡ reverse (filter p xs)
filter-reverse p [] = refl
filter-reverse p (x ∷ xs) =
    ap (filter p) (reverse-append (x ∷ []) xs)
    ∙ filter-append p (reverse xs) (x ∷ [])
    ∙ ap (λ front. front ++ filter p (x ∷ [])) (filter-reverse p xs)
    ∙ last (p x)
  where
    last : (b : Bool) → reverse (filter p xs) ++ cond b (x ∷ []) [] ≡ reverse (cond b (x ∷ filter p xs) (filter p xs))
    last true = sym (reverse-append (x ∷ []) (filter p xs))
    last false = append-nil (reverse (filter p xs))

pub map-reverse : {A B : Type 0} (f : A → B) (xs : List A) → map f (reverse xs) ≡ reverse (map f xs)
map-reverse f [] = refl
map-reverse f (x ∷ xs) =
    ap (map f) (reverse-append (x ∷ []) xs) ∙ map-append f (reverse xs) (x ∷ [])
    ∙ ap (λ front. front ++ f x ∷ []) (map-reverse f xs) ∙ sym (reverse-append (f x ∷ []) (map f xs))

pub passing : {A : Type 0} (p : A → Bool) (xs : List A) → AllByRecursion (λ x. p x ≡ true) (filter p xs)
passing p xs = recursion_from_All (λ x. p x ≡ true) (filter p xs) (filter_passes p xs)

pub bounded_left : {A : Type 0} (R : A → A → Type 0) (B : A → Type 0) (xs : List A) → IsAscending R xs → AllByRecursion B xs → IsAscending (λ a b. R a b × B a) xs
bounded_left R B [] up all = tt
bounded_left R B (x ∷ xs) up all = (all_weaker (R x) (λ y. R x y × B x) (λ y r. (r, all.0)) xs up.0, bounded_left R B xs up.1 all.1)

pub all_taken : {A : Type 0} (P : A → Type 0) (n : ℕ) (xs : List A) → AllByRecursion P xs → AllByRecursion P (take n xs)
all_taken P zero xs all = tt
all_taken P (suc n) [] all = tt
all_taken P (suc n) (x ∷ xs) all = (all.0, all_taken P n xs all.1)

pub ascending_taken : {A : Type 0} (R : A → A → Type 0) (n : ℕ) (xs : List A) → IsAscending R xs → IsAscending R (take n xs)
ascending_taken R zero xs up = tt
ascending_taken R (suc n) [] up = tt
ascending_taken R (suc n) (x ∷ xs) up = (all_taken (R x) n xs up.0, ascending_taken R n xs up.1)

-- ---- times

pub from_bound : (bound time : ℕ) → bound ≤ time → is_from (pos bound) (Int (pos time)) ≡ true
from_bound bound time le = elim (cases_Bool (ltb time bound)) [
  | inl less ↦ absurd (let lt = ltb-true time bound less in omega arith)
  | inr more ↦ rw more (elim (ltb bound time) as (λ b. is_ge (cond b Greater Equal) ≡ true) [ true ↦ refl | false ↦ refl ])
]

pub until_bound : (bound time : ℕ) → time ≤ bound → is_until (pos bound) (Int (pos time)) ≡ true
until_bound bound time le = elim (cases_Bool (ltb bound time)) [
  | inl more ↦ absurd (let lt = ltb-true bound time more in omega arith)
  | inr less ↦ rw less (elim (ltb time bound) as (λ b. is_le (cond b Less Equal) ≡ true) [ true ↦ refl | false ↦ refl ])
]

pub behind_from : (bound time : ℕ) → is_from (pos bound) (Int (pos time)) ≡ true → bound ≤ time
behind_from bound time is = elim (cases_Bool (ltb time bound)) [
  | inl less ↦ absurd (let h = rw less at is in cc)
  | inr more ↦ ltb-false time bound more
]

pub behind_until : (bound time : ℕ) → is_until (pos bound) (Int (pos time)) ≡ true → time ≤ bound
behind_until bound time is = elim (cases_Bool (ltb bound time)) [
  | inl more ↦
      let lt = ltb-true bound time more in
      let not_less : ltb time bound ≡ false = grind (arith, nat_tests) in
      absurd (let h = rw (not_less, more) at is in cc)
  | inr less ↦ ltb-false bound time less
]

pub and_right : (a b : Bool) → (a && b) ≡ true → b ≡ true
and_right true b is = is
and_right false b is = absurd (both_ways false refl is)
