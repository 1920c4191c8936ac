-- What one new row of a table does to the tenants' rows.
use Rattle.std.proofs.Common.{◌≡◌, ◌≢◌, ℤ, Bool, true, false, not, cond, ◌||◌, Option, Some, None, option_map, is_some, length, arith, List, [], ◌∷◌, map, filter, refl, sym, ap, subst, ◌∙◌, IsPermutation, Ordering, Less, Equal, Greater, is_eq}
use Rattle.std.specs.List.{AllByRecursion, list_any}
use Rattle.std.specs.Bool.{Decides}
use Rattle.std.specs.Ordering.{int_eq, match_ordering}
use Rattle.std.proofs.lemmas.Bool.Decides.{Decides-int_eq}
use Rattle.std.proofs.lemmas.Cmp.{tied_itself}
use Rattle.std.proofs.lemmas.List.Sorted.{IsPermutation-refl, IsPermutation-trans, IsPermutation-cons, IsPermutation-middle, length_permutation}
use Rattle.sqlite_value.specs.declared.value.Value.{Value}
use Rattle.sqlite_value.specs.declared.value.Value.TheVariants.{Null, Int, Real, Text, Blob}
use Rattle.sqlite_value.specs.Order.{Row, value_cmp}
use Rattle.sqlite_value.proofs.OrderLemmas.{value_cmp-Int, value_cmp_total}
use Rattle.sqlite_trees.specs.Tree.{IsTable, rowid, put_row}
use Rattle.ledger_sql.specs.Effects.{Picks}
use Rattle.ledger_sql.specs.TableRows.{is_int}
use Rattle.sqlite_trees.proofs.ListLemmas.{all-filter}

-- In a table, the one row that passes the test has the rowid of a new row, which takes its place.
module _ (p : Row → Bool) (was new : Row) (same : rowid was ≡ rowid new) where
  none_out : (xs : List Row) → filter p xs ≡ [] → filter (λ x. not (p x)) xs ≡ xs
  none_out [] none = refl
  none_out (x ∷ xs) none = at (p x) refl none (none_out xs)
    where
      at : (b : Bool) → p x ≡ b → filter p (x ∷ xs) ≡ [] → (filter p xs ≡ [] → filter (λ x. not (p x)) xs ≡ xs) → filter (λ x. not (p x)) (x ∷ xs) ≡ x ∷ xs
      at true is none more = absurd (let e = ap (λ b. cond b (x ∷ filter p xs) (filter p xs)) (sym is) ∙ none in cc)
      at false is none more =
          ap (λ b. cond (not b) (x ∷ filter (λ x. not (p x)) xs) (filter (λ x. not (p x)) xs)) is
          ∙ ap (λ ys. x ∷ ys) (more (ap (λ b. cond b (x ∷ filter p xs) (filter p xs)) (sym is) ∙ none))

  -- where the first row is the one, it is replaced at once
  put_here : (x : Row) (xs : List Row) → x ≡ was → put_row new (x ∷ xs) ≡ new ∷ xs
  put_here x xs is = ap (λ o. match_ordering o (x ∷ put_row new xs) (new ∷ xs) (new ∷ x ∷ xs)) (ap (λ v. value_cmp v (rowid new)) (ap rowid is ∙ same) ∙ tied_itself value_cmp_total (rowid new))

  put_later : (x : Row) (xs : List Row) → value_cmp (rowid x) (rowid was) ≡ Less → put_row new (x ∷ xs) ≡ x ∷ put_row new xs
  put_later x xs below = ap (λ o. match_ordering o (x ∷ put_row new xs) (new ∷ xs) (new ∷ x ∷ xs)) (ap (value_cmp (rowid x)) (sym same) ∙ below)

  -- the one stands after a row that does not pass
  below_it : (x : Row) (xs : List Row) → AllByRecursion (λ y. value_cmp (rowid x) (rowid y) ≡ Less) xs → filter p xs ≡ was ∷ [] → value_cmp (rowid x) (rowid was) ≡ Less
  below_it x xs above one = (subst (λ ys. AllByRecursion (λ y. value_cmp (rowid x) (rowid y) ≡ Less) ys) one (all-filter (λ y. value_cmp (rowid x) (rowid y) ≡ Less) p xs above)).0

  pub replaced : (xs : List Row) → IsTable xs → filter p xs ≡ was ∷ [] → IsPermutation (new ∷ filter (λ x. not (p x)) xs) (put_row new xs)
  replaced [] rise one = absurd (cc)
  replaced (x ∷ xs) rise one = at (p x) refl one (replaced xs rise.1)
    where
      at : (b : Bool) → p x ≡ b → filter p (x ∷ xs) ≡ was ∷ [] → (filter p xs ≡ was ∷ [] → IsPermutation (new ∷ filter (λ x. not (p x)) xs) (put_row new xs))
          → IsPermutation (new ∷ filter (λ x. not (p x)) (x ∷ xs)) (put_row new (x ∷ xs))
      at true is one more =
          let both : x ∷ filter p xs ≡ was ∷ [] = ap (λ b. cond b (x ∷ filter p xs) (filter p xs)) (sym is) ∙ one in
          let first : x ≡ was = cc in
          let none : filter p xs ≡ [] = cc in
          let left : filter (λ x. not (p x)) (x ∷ xs) ≡ xs = ap (λ b. cond (not b) (x ∷ filter (λ x. not (p x)) xs) (filter (λ x. not (p x)) xs)) is ∙ none_out xs none in
          subst (λ ys. IsPermutation (new ∷ filter (λ x. not (p x)) (x ∷ xs)) ys) (sym (put_here x xs first)) (subst (λ ys. IsPermutation (new ∷ ys) (new ∷ xs)) (sym left) (IsPermutation-refl (new ∷ xs)))
      at false is one more =
          let rest : filter p xs ≡ was ∷ [] = ap (λ b. cond b (x ∷ filter p xs) (filter p xs)) (sym is) ∙ one in
          let out = filter (λ x. not (p x)) xs in
          let left : filter (λ x. not (p x)) (x ∷ xs) ≡ x ∷ out = ap (λ b. cond (not b) (x ∷ filter (λ x. not (p x)) xs) (filter (λ x. not (p x)) xs)) is in
          subst (λ ys. IsPermutation (new ∷ filter (λ x. not (p x)) (x ∷ xs)) ys) (sym (put_later x xs (below_it x xs rise.0 rest)))
          (subst (λ ys. IsPermutation (new ∷ ys) (x ∷ put_row new xs)) (sym left)
          (IsPermutation-trans (new ∷ x ∷ out) (x ∷ new ∷ out) (x ∷ put_row new xs) (IsPermutation-middle (new ∷ []) x out) (IsPermutation-cons x (new ∷ out) (put_row new xs) (more rest))))

  -- a test that neither of the two passes finds the same rows
  pub kept_aside : (q : Row → Bool) → q was ≡ false → q new ≡ false → (xs : List Row) → IsTable xs → filter p xs ≡ was ∷ [] → filter q (put_row new xs) ≡ filter q xs
  kept_aside q out_was out_new [] rise one = absurd (cc)
  kept_aside q out_was out_new (x ∷ xs) rise one = at (p x) refl one (kept_aside q out_was out_new xs rise.1)
    where
      at : (b : Bool) → p x ≡ b → filter p (x ∷ xs) ≡ was ∷ [] → (filter p xs ≡ was ∷ [] → filter q (put_row new xs) ≡ filter q xs) → filter q (put_row new (x ∷ xs)) ≡ filter q (x ∷ xs)
      at true is one more =
          let both : x ∷ filter p xs ≡ was ∷ [] = ap (λ b. cond b (x ∷ filter p xs) (filter p xs)) (sym is) ∙ one in
          let first : x ≡ was = cc in
          ap (filter q) (put_here x xs first) ∙ ap (λ b. cond b (new ∷ filter q xs) (filter q xs)) out_new ∙ ap (λ b. cond b (x ∷ filter q xs) (filter q xs)) (sym (ap q first ∙ out_was))
      at false is one more =
          let rest : filter p xs ≡ was ∷ [] = ap (λ b. cond b (x ∷ filter p xs) (filter p xs)) (sym is) ∙ one in
          ap (filter q) (put_later x xs (below_it x xs rise.0 rest)) ∙ ap (λ ys. cond (q x) (x ∷ ys) ys) (more rest)

  pub it_passes : (xs : List Row) → filter p xs ≡ was ∷ [] → p was ≡ true
  it_passes [] one = absurd (cc)
  it_passes (x ∷ xs) one = at (p x) refl one (it_passes xs)
    where
      at : (b : Bool) → p x ≡ b → filter p (x ∷ xs) ≡ was ∷ [] → (filter p xs ≡ was ∷ [] → p was ≡ true) → p was ≡ true
      at true is one more =
          let both : x ∷ filter p xs ≡ was ∷ [] = ap (λ b. cond b (x ∷ filter p xs) (filter p xs)) (sym is) ∙ one in
          let first : x ≡ was = cc in
          ap p (sym first) ∙ is
      at false is one more = more (ap (λ b. cond b (x ∷ filter p xs) (filter p xs)) (sym is) ∙ one)

pub same_int : (n : ℤ) → int_eq n n ≡ true
same_int n = (Decides-int_eq n n).1 refl

pub other_int : (m n : ℤ) → n ≢ m → int_eq m n ≡ false
other_int m n ne = at (int_eq m n) (Decides-int_eq m n)
  where
    at : (b : Bool) → Decides b (m ≡ n) → b ≡ false
    at true is = absurd (ne (sym (is.0 refl)))
    at false other = refl

-- no value equals two numbers
pub one_number : (tenant other : ℤ) (v : Value) → other ≢ tenant → is_int tenant v ≡ true → is_int other v ≡ false
one_number tenant other Null ne own = refl
one_number tenant other (Int m) ne own = let same : m ≡ tenant = (Decides-int_eq m tenant).0 own in ap (λ n. int_eq n other) same ∙ other_int tenant other ne
one_number tenant other (Real x) ne own =
    let tied : value_cmp (Real x) (Int tenant) ≡ Equal = equal_of _ own in
    ap is_eq (value_cmp_total.congr (Real x) (Int tenant) (Int other) tied ∙ value_cmp-Int tenant other) ∙ other_int tenant other ne
  where
    equal_of : (o : Ordering) → is_eq o ≡ true → o ≡ Equal
    equal_of Less e = absurd (cc)
    equal_of Equal e = refl
    equal_of Greater e = absurd (cc)
one_number tenant other (Text t) ne own = refl
one_number tenant other (Blob b) ne own = refl

-- a list that is seen as one row is one row
pub one_mapped : {A B : Type 0} (f : A → B) (xs : List A) (y : B) → map f xs ≡ y ∷ [] → (x : A) × (xs ≡ x ∷ []) × (f x ≡ y)
one_mapped f [] y e = absurd (cc)
one_mapped f (x ∷ []) y e = (x, refl, let same : f x ≡ y = cc in same)
one_mapped f (x ∷ z ∷ xs) y e = absurd (let none : map f (z ∷ xs) ≡ [] = cc in cc)

none_passes : {A : Type 0} (p : A → Bool) (xs : List A) → list_any p xs ≡ false → filter p xs ≡ []
none_passes p [] none = refl
none_passes p (x ∷ xs) none = at (p x) refl none (none_passes p xs)
  where
    at : (b : Bool) → p x ≡ b → list_any p (x ∷ xs) ≡ false → (list_any p xs ≡ false → filter p xs ≡ []) → filter p (x ∷ xs) ≡ []
    at true is none later = absurd (let e = ap (λ b. b || list_any p xs) (sym is) ∙ none in cc)
    at false is none later = ap (λ b. cond b (x ∷ filter p xs) (filter p xs)) is ∙ later (ap (λ b. b || list_any p xs) (sym is) ∙ none)

passes_none : {A : Type 0} (p : A → Bool) (xs : List A) → filter p xs ≡ [] → list_any p xs ≡ false
passes_none p [] none = refl
passes_none p (x ∷ xs) none = at (p x) refl none (passes_none p xs)
  where
    at : (b : Bool) → p x ≡ b → filter p (x ∷ xs) ≡ [] → (filter p xs ≡ [] → list_any p xs ≡ false) → list_any p (x ∷ xs) ≡ false
    at true is none later = absurd (let e = ap (λ b. cond b (x ∷ filter p xs) (filter p xs)) (sym is) ∙ none in cc)
    at false is none later = ap (λ b. b || list_any p xs) is ∙ later (ap (λ b. cond b (x ∷ filter p xs) (filter p xs)) (sym is) ∙ none)

picks_any : (p : Row → Bool) (xs : List Row) (found : Option Row) → Picks (filter p xs) found → is_some found ≡ list_any p xs
picks_any p xs None none = sym (passes_none p xs none)
picks_any p xs (Some row) some = at (list_any p xs) refl
  where
    at : (b : Bool) → list_any p xs ≡ b → true ≡ b
    at true is = refl
    at false is = absurd (omega (arith, length_permutation (filter p xs) (row ∷ some.0) some.1, ap length (none_passes p xs is)))

some_mapped : {A B : Type 0} (f : A → B) (found : Option A) → is_some (option_map f found) ≡ is_some found
some_mapped f None = refl
some_mapped f (Some x) = refl

-- a row was found exactly if one passes the test
pub any_found : {A : Type 0} (values : A → Row) (p : Row → Bool) (rows : List Row) (found : Option A) → Picks (filter p rows) (option_map values found) → is_some found ≡ list_any p rows
any_found values p rows found it = sym (some_mapped values found) ∙ picks_any p rows (option_map values found) it
