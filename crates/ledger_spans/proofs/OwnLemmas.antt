-- A range of a key that begins with a tenant has that tenant's rows, in the order of the other columns.
use Rattle.std.proofs.Common.{◌≡◌, ◌+◌, ◌<◌, ℕ, ℤ, Bool, true, not, ◌&&◌, List, [], ◌∷◌, length, get_or, refl, sym, ap, ◌∙◌, arith, IsSorted, Ordering, Less, Equal, Greater, is_eq, is_lt, is_gt}
use Rattle.std.specs.List.{AllByRecursion}
use Rattle.std.specs.Ordering.{int_cmp, is_ge, is_le, ordering_reverse, ordering_then}
use Rattle.sqlite_value.specs.declared.value.Value.{Value}
use Rattle.sqlite_value.specs.declared.value.Value.TheVariants.{Null, Int, Real, Text, Blob}
use Rattle.sqlite_value.specs.Order.{Row, column, value_cmp}
use Rattle.sqlite_value.specs.Keys.{by_key, entry_cmp, plain}
use Rattle.sqlite_value.proofs.KeyLemmas.{first_key-plain}
use Rattle.sqlite_value.proofs.OrderLemmas.{value_cmp-Int, value_cmp-apart, value_cmp_total}
use Rattle.sqlite_trees.specs.declared.store.Direction.TheVariants.{Forward, Backward}
use Rattle.sqlite_trees.proofs.ListLemmas.{all-get_or}
use Rattle.sqlite_sql.specs.Catalog.{entry_of}
use Rattle.keyed_trees.specs.Layout.{KeyShape}
use Rattle.keyed_trees.specs.Rows.{is_in_range, walk_cmp}
use Rattle.ledger_layout.proofs.KeyLemmas.{is_int_is}
use Rattle.ledger_sql.specs.TableRows.{is_from, is_int, is_own, is_until}

from_is : (o : Ordering) → not (is_lt o) ≡ is_ge o
from_is Less = refl
from_is Equal = refl
from_is Greater = refl

until_is : (o : Ordering) → not (is_gt o) ≡ is_le o
until_is Less = refl
until_is Equal = refl
until_is Greater = refl

in_time : (first last : ℤ) (v : Value) → (not (is_lt (value_cmp v (Int first))) && not (is_gt (value_cmp v (Int last)))) ≡ (is_from first v && is_until last v)
in_time first last Null = ap (λ o. not (is_lt o) && not (is_gt (value_cmp Null (Int last)))) (value_cmp-apart Null (Int first) (λ e. cc))
in_time first last (Int m) =
    (λ i. not (is_lt (value_cmp-Int m first i)) && not (is_gt (value_cmp-Int m last i))) ∙ (λ i. from_is (int_cmp m first) i && until_is (int_cmp m last) i)
in_time first last (Real x) = λ i. from_is (value_cmp (Real x) (Int first)) i && until_is (value_cmp (Real x) (Int last)) i
in_time first last (Text t) = λ i. from_is (value_cmp (Text t) (Int first)) i && until_is (value_cmp (Text t) (Int last)) i
in_time first last (Blob b) = λ i. from_is (value_cmp (Blob b) (Int first)) i && until_is (value_cmp (Blob b) (Int last)) i

neither : (o : Ordering) → (not (is_lt (ordering_then o Equal)) && not (is_gt (ordering_then o Equal))) ≡ is_eq o
neither Less = refl
neither Equal = refl
neither Greater = refl

within : (o low high : Ordering) → (not (is_lt (ordering_then o (ordering_then low Equal))) && not (is_gt (ordering_then o (ordering_then high Equal)))) ≡ (is_eq o && (not (is_lt low) && not (is_gt high)))
within Less low high = refl
within Equal Less high = refl
within Equal Equal Less = refl
within Equal Equal Equal = refl
within Equal Equal Greater = refl
within Equal Greater Less = refl
within Equal Greater Equal = refl
within Equal Greater Greater = refl
within Greater low high = refl

within_back : (o low high : Ordering) → (not (is_gt (ordering_then o (ordering_then high Equal))) && not (is_lt (ordering_then o (ordering_then low Equal)))) ≡ (is_eq o && (not (is_lt low) && not (is_gt high)))
within_back Less low high = refl
within_back Equal Less Less = refl
within_back Equal Less Equal = refl
within_back Equal Less Greater = refl
within_back Equal Equal Less = refl
within_back Equal Equal Equal = refl
within_back Equal Equal Greater = refl
within_back Equal Greater Less = refl
within_back Equal Greater Equal = refl
within_back Equal Greater Greater = refl
within_back Greater low high = refl

equal_of : (o : Ordering) → is_eq o ≡ true → o ≡ Equal
equal_of Less e = absurd (cc)
equal_of Equal e = refl
equal_of Greater e = absurd (cc)

-- rows of one tenant do not differ in its column
own_tied : (tenant : ℤ) (a b : Row) → is_own tenant a ≡ true → is_own tenant b ≡ true → value_cmp (column a 1) (column b 1) ≡ Equal
own_tied tenant a b first second =
    let at : (v : Value) → is_int tenant v ≡ true → value_cmp v (Int tenant) ≡ Equal = λ v e. equal_of (value_cmp v (Int tenant)) (is_int_is tenant v ∙ e) in
    value_cmp_total.congr (column a 1) (Int tenant) (column b 1) (at (column a 1) first) ∙ value_cmp_total.antisymm (Int tenant) (column b 1) ∙ ap ordering_reverse (at (column b 1) second)

module _ (tree table : ℕ) (columns : List ℕ) where
  abbrev key : KeyShape
  key = record { tree = tree; table = table; columns = 1 ∷ columns; order = plain }

  -- where both ends are the tenant alone, all of its rows are in the range
  pub in_whole : (tenant : ℤ) (row : Row) → is_in_range key Forward (Int tenant ∷ []) (Int tenant ∷ []) row ≡ is_own tenant row
  in_whole tenant row =
      ap (λ k. not (is_lt (ordering_then (by_key k (column row 1) (Int tenant)) Equal)) && not (is_gt (ordering_then (by_key k (column row 1) (Int tenant)) Equal))) first_key-plain
      ∙ neither (value_cmp (column row 1) (Int tenant)) ∙ is_int_is tenant (column row 1)

  abbrev Own : ℤ → List Row → Type 0
  Own tenant rows = AllByRecursion (λ r. is_own tenant r ≡ true) rows

  abbrev rest_cmp : Row → Row → Ordering
  rest_cmp a b = entry_cmp plain (entry_of columns a) (entry_of columns b)

  rest_is : (tenant : ℤ) (a b : Row) → is_own tenant a ≡ true → is_own tenant b ≡ true → walk_cmp key Forward a b ≡ rest_cmp a b
  rest_is tenant a b first second =
      ap (λ k. ordering_then (by_key k (column a 1) (column b 1)) (rest_cmp a b)) first_key-plain ∙ ap (λ o. ordering_then o (rest_cmp a b)) (own_tied tenant a b first second)

  -- a tenant's rows in the order of a walk are in that of the columns after the tenant
  pub walk_forward : (tenant : ℤ) (rows : List Row) → Own tenant rows → IsSorted (walk_cmp key Forward) rows → IsSorted rest_cmp rows
  walk_forward tenant rows own sorted k d low high =
      let own_at : (i : ℕ) → i < length rows → is_own tenant (get_or rows i d) ≡ true = λ i h. all-get_or (λ r. is_own tenant r ≡ true) rows i d own h in
      ap is_lt (sym (rest_is tenant (get_or rows (k + 1) d) (get_or rows k d) (own_at (k + 1) high) (own_at k (omega arith)))) ∙ sorted k d low high

  pub walk_backward : (tenant : ℤ) (rows : List Row) → Own tenant rows → IsSorted (walk_cmp key Backward) rows → IsSorted (λ a b. rest_cmp b a) rows
  walk_backward tenant rows own sorted k d low high =
      let own_at : (i : ℕ) → i < length rows → is_own tenant (get_or rows i d) ≡ true = λ i h. all-get_or (λ r. is_own tenant r ≡ true) rows i d own h in
      ap is_lt (sym (rest_is tenant (get_or rows k d) (get_or rows (k + 1) d) (own_at k (omega arith)) (own_at (k + 1) high))) ∙ sorted k d low high

module _ (tree table time : ℕ) (columns : List ℕ) where
  abbrev timed : KeyShape
  timed = record { tree = tree; table = table; columns = 1 ∷ time ∷ columns; order = plain }

  abbrev is_within : ℤ → ℤ → ℤ → Row → Bool
  is_within tenant first last row = is_own tenant row && (is_from first (column row time) && is_until last (column row time))

  in_row : (tenant first last : ℤ) (row : Row) → (is_eq (value_cmp (column row 1) (Int tenant)) && (not (is_lt (value_cmp (column row time) (Int first))) && not (is_gt (value_cmp (column row time) (Int last)))))
      ≡ is_within tenant first last row
  in_row tenant first last row = λ i. is_int_is tenant (column row 1) i && in_time first last (column row time) i

  -- where the ends are two times, the tenant's rows between them are in the range
  pub in_span : (tenant first last : ℤ) (row : Row) → is_in_range timed Forward (Int tenant ∷ Int first ∷ []) (Int tenant ∷ Int last ∷ []) row ≡ is_within tenant first last row
  in_span tenant first last row =
      ap (λ k. not (is_lt (ordering_then (by_key k (column row 1) (Int tenant)) (ordering_then (by_key k (column row time) (Int first)) Equal)))
      && not (is_gt (ordering_then (by_key k (column row 1) (Int tenant)) (ordering_then (by_key k (column row time) (Int last)) Equal)))) first_key-plain
      ∙ within (value_cmp (column row 1) (Int tenant)) (value_cmp (column row time) (Int first)) (value_cmp (column row time) (Int last))
      ∙ in_row tenant first last row

  pub in_span_back : (tenant first last : ℤ) (row : Row) → is_in_range timed Backward (Int tenant ∷ Int last ∷ []) (Int tenant ∷ Int first ∷ []) row ≡ is_within tenant first last row
  in_span_back tenant first last row =
      ap (λ k. not (is_gt (ordering_then (by_key k (column row 1) (Int tenant)) (ordering_then (by_key k (column row time) (Int last)) Equal)))
      && not (is_lt (ordering_then (by_key k (column row 1) (Int tenant)) (ordering_then (by_key k (column row time) (Int first)) Equal)))) first_key-plain
      ∙ within_back (value_cmp (column row 1) (Int tenant)) (value_cmp (column row time) (Int first)) (value_cmp (column row time) (Int last))
      ∙ in_row tenant first last row
