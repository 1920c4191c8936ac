-- The keys of the set of due times up to a clock.
use Rattle.std.proofs.Common.{◌≡◌, ℕ, ◌<◌, ◌≤◌, Bool, true, false, not, eqb, ltb, ◌&&◌, ◌||◌, cond, List, [], ◌∷◌, filter, Ordering, Less, Equal, Greater, is_lt, is_le, is_eq, IsTrue, refl, sym, ap, subst, ◌∙◌, arith}
use Rattle.std.specs.List.{AllByRecursion, list_any}
use Rattle.std.specs.Ordering.{nat_cmp, ordering_then}
use Rattle.std.proofs.lemmas.Bool.Decides.{Decides-eqb, nat_tests}

-- the order of pairs
abbrev pub pair_cmp : ℕ × ℕ → ℕ × ℕ → Ordering
pair_cmp x y = ordering_then (nat_cmp x.0 y.0) (nat_cmp x.1 y.1)

-- a key that the query finds
abbrev pub finds : ℕ × ℕ → ℕ × ℕ → Bool
finds query key = is_eq (pair_cmp query key)

-- whether a key is at the start or later, and not past the end
abbrev pub is_within : ℕ × ℕ → ℕ × ℕ → ℕ × ℕ → Bool
is_within start end key = is_le (pair_cmp start key) && not (is_lt (pair_cmp end key))

equal_step : (x y : ℕ) (less same : Bool) → eqb x y ≡ same → cond less Less (cond same Equal Greater) ≡ Equal → x ≡ y
equal_step x y true same is e = absurd (cc)
equal_step x y false true is e = (Decides-eqb x y).0 is
equal_step x y false false is e = absurd (cc)

equal_numbers : (x y : ℕ) → nat_cmp x y ≡ Equal → x ≡ y
equal_numbers x y e = equal_step x y (ltb x y) (eqb x y) refl e

both_equal : (o p : Ordering) → is_eq (ordering_then o p) ≡ true → (o ≡ Equal) × (p ≡ Equal)
both_equal Less p e = absurd (cc)
both_equal Equal Less e = absurd (cc)
both_equal Equal Equal e = (refl, refl)
both_equal Equal Greater e = absurd (cc)
both_equal Greater p e = absurd (cc)

found_key : (query key : ℕ × ℕ) → finds query key ≡ true → key ≡ query
found_key query key e =
    let both = both_equal (nat_cmp query.0 key.0) (nat_cmp query.1 key.1) e in
    λ i. (sym (equal_numbers query.0 key.0 both.0) i, sym (equal_numbers query.1 key.1 both.1) i)

not_less : (x y : ℕ) → y ≤ x → is_lt (nat_cmp x y) ≡ false
not_less x y h = grind (arith, nat_tests)

neither_less : (o p : Ordering) → is_lt o ≡ false → is_lt p ≡ false → is_lt (ordering_then o p) ≡ false
neither_less Less p h k = h
neither_less Equal p h k = k
neither_less Greater p h k = refl

is_less : (x y : ℕ) → x < y → is_lt (nat_cmp x y) ≡ true
is_less x y h = grind (arith, nat_tests)

less_then : (o p : Ordering) → is_lt o ≡ true → is_le (ordering_then o p) ≡ true
less_then Less p h = refl
less_then Equal p h = absurd (cc)
less_then Greater p h = absurd (cc)

-- a key behind the first number of the start, and up to both numbers of the end, is within
within : (start end key : ℕ × ℕ) → start.0 < key.0 → key.0 ≤ end.0 → key.1 ≤ end.1 → is_within start end key ≡ true
within start end key l p q = λ i.
    less_then (nat_cmp start.0 key.0) (nat_cmp start.1 key.1) (is_less start.0 key.0 l) i
    && not (neither_less (nat_cmp end.0 key.0) (nat_cmp end.1 key.1) (not_less end.0 key.0 p) (not_less end.1 key.1 q) i)

found_within : (start end query key : ℕ × ℕ) → start.0 < query.0 → query.0 ≤ end.0 → query.1 ≤ end.1 → finds query key ≡ true → is_within start end key ≡ true
found_within start end query key l p q e = let same = found_key query key e in ap (is_within start end) same ∙ within start end query l p q

-- what passes one test passes another, so it is there among those that do
kept_step : {X : Type 0} (p q : X → Bool) (found kept : Bool) (x : X) (xs : List X) → p x ≡ found → q x ≡ kept → (found ≡ true → kept ≡ true) → (found || list_any p xs) ≡ true → (list_any p xs ≡ true → list_any p (filter q xs) ≡ true)
    → list_any p (cond kept (x ∷ filter q xs) (filter q xs)) ≡ true
kept_step p q true true x xs is k leads any rest = ap (λ b. b || list_any p (filter q xs)) is
kept_step p q true false x xs is k leads any rest = absurd (let e = leads refl in cc)
kept_step p q false true x xs is k leads any rest = ap (λ b. b || list_any p (filter q xs)) is ∙ rest any
kept_step p q false false x xs is k leads any rest = rest any

any_kept : {X : Type 0} (p q : X → Bool) → ((x : X) → p x ≡ true → q x ≡ true) → (xs : List X) → list_any p xs ≡ true → list_any p (filter q xs) ≡ true
any_kept p q leads [] any = any
any_kept p q leads (x ∷ xs) any = kept_step p q (p x) (q x) x xs refl refl (leads x) any (any_kept p q leads xs)

-- what holds of all keys holds of the one that is found
holds_step : (P : ℕ × ℕ → Type 0) (query key : ℕ × ℕ) (found more : Bool) → finds query key ≡ found → P key → (found || more) ≡ true → (more ≡ true → P query) → P query
holds_step P query key true more is p any rest = subst P (found_key query key is) p
holds_step P query key false more is p any rest = rest any

holds_there : (P : ℕ × ℕ → Type 0) (query : ℕ × ℕ) (keys : List (ℕ × ℕ)) → AllByRecursion P keys → list_any (finds query) keys ≡ true → P query
holds_there P query [] all any = absurd (cc)
holds_there P query (key ∷ keys) all any = holds_step P query key (finds query key) (list_any (finds query) keys) refl all.0 any (holds_there P query keys all.1)

-- what holds of all keys from a start up to an end holds of each such key that the set has
pub holds_within : (P : ℕ × ℕ → Type 0) (start end query : ℕ × ℕ) (keys : List (ℕ × ℕ)) → start.0 < query.0 → query.0 ≤ end.0 → query.1 ≤ end.1 → AllByRecursion P (filter (is_within start end) keys) → IsTrue (list_any (finds query) keys) → P query
holds_within P start end query keys l p q all has = holds_there P query (filter (is_within start end) keys) all (any_kept (finds query) (is_within start end) (λ key. found_within start end query key l p q) keys has)
