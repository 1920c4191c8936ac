-- Lists that pass a test, and lists in order.
use Rattle.std.proofs.Common.{◌≡◌, ◌+◌, ◌<◌, Bool, true, false, cond, List, [], ◌∷◌, filter, get_or, length, map, refl, sym, ap, ◌∙◌, arith, IsSorted, Ordering, is_lt}
use Rattle.std.specs.List.{AllByRecursion}
use Rattle.std.proofs.lemmas.List.{get_or-map, length-map}

pub passing : {A : Type 0} (p : A → Bool) (xs : List A) → AllByRecursion (λ x. p x ≡ true) (filter p xs)
passing p [] = tt
passing p (x ∷ xs) = at (p x) refl (passing p xs)
  where
    at : (b : Bool) → p x ≡ b → AllByRecursion (λ x. p x ≡ true) (filter p xs) → AllByRecursion (λ x. p x ≡ true) (cond b (x ∷ filter p xs) (filter p xs))
    at true is more = (is, more)
    at false is more = more

pub sorted_weaker : {A : Type 0} (one other : A → A → Ordering) (xs : List A) → ((a b : A) → is_lt (one a b) ≡ false → is_lt (other a b) ≡ false) → IsSorted one xs → IsSorted other xs
sorted_weaker one other xs weaker sorted k d low high = weaker (get_or xs (k + 1) d) (get_or xs k d) (sorted k d low high)

pub sorted_map : {X Y : Type 0} (cmp : Y → Y → Ordering) (f : X → Y) (xs : List X) → IsSorted (λ a b. cmp (f a) (f b)) xs → IsSorted cmp (map f xs)
sorted_map cmp f [] sorted k d low high = absurd (omega arith)
sorted_map cmp f (x ∷ xs) sorted k d low high =
    let few : k + 1 < length (x ∷ xs) = rw length-map at high in
    ap is_lt (λ i. cmp (get_or-map f (x ∷ xs) (k + 1) x d few i) (get_or-map f (x ∷ xs) k x d (omega (arith, few)) i)) ∙ sorted k x low few
