-- At most one of a tenant's rows in a table has a key that the tenant's typed rows have once.
use Rattle.std.proofs.Common.{◌≡◌, ◌&&◌, ◌<◌, ◌≤◌, ℕ, ℤ, Bool, true, false, eqb, cond, List, [], ◌∷◌, map, filter, length, inl, inr, refl, sym, ap, subst, ◌∙◌, arith}
use Rattle.std.specs.List.{AllByRecursion, count_by}
use Rattle.std.proofs.lemmas.Bool.{and_from, cases_Bool, eq-eqb, eqb-true, ne_eqb}
use Rattle.std.proofs.lemmas.List.{length-map}
use Rattle.std.proofs.lemmas.List.Elements.{recursion_from_All}
use Rattle.std.proofs.lemmas.List.Sorted.{Contains-permutation, IsPermutation-sym, sum_by-IsPermutation}
use Rattle.std.proofs.lemmas.List.Sums.{length-filter, sum_by-cons}
use Rattle.sqlite_value.specs.Keys.{plain}
use Rattle.sqlite_value.specs.Order.{Row}
use Rattle.sqlite_trees.specs.Tree.{Trees}
use Rattle.sqlite_trees.proofs.ListLemmas.{filter-map}
use Rattle.sqlite_schema.specs.Rules.{agree}
use Rattle.sqlite_rules.specs.Lists.{Has}
use Rattle.sqlite_rules.proofs.KeyLemmas.{agree_back, agree_chain}
use Rattle.sqlite_rules.proofs.ListLemmas.{all_has, contains_had, has_contained, has_kept}
use Rattle.rows.specs.Tables.{HasDistinctKeys, IsAscendingBy}
use Rattle.ledger_sql.specs.TableRows.{cells_from, is_own, rows_in}
use Rattle.stored_tables.specs.Holds.{HasRows}

module _ {A B : Type 0} where
  pub has_mapped : (f : A → B) (xs : List A) (x : A) → Has xs x → Has (map f xs) (f x)
  has_mapped f [] x here = absurd here
  has_mapped f (y ∷ xs) x (inl same) = inl (ap f same)
  has_mapped f (y ∷ xs) x (inr later) = inr (has_mapped f xs x later)

  pub of_mapped : (f : A → B) (xs : List A) (y : B) → Has (map f xs) y → (x : A) × Has xs x × (y ≡ f x)
  of_mapped f [] y here = absurd here
  of_mapped f (x ∷ xs) y (inl same) = (x, inl refl, same)
  of_mapped f (x ∷ xs) y (inr later) = let found = of_mapped f xs y later in (found.0, inr found.1, found.2)

module _ {A : Type 0} where
  -- of at most one row
  pub same_has : (xs : List A) (x y : A) → length xs ≤ 1 → Has xs x → Has xs y → y ≡ x
  same_has [] x y few p q = absurd p
  same_has (z ∷ []) x y few (inl p) (inl q) = q ∙ sym p
  same_has (z ∷ []) x y few (inl p) (inr q) = absurd q
  same_has (z ∷ []) x y few (inr p) q = absurd p
  same_has (z ∷ w ∷ xs) x y few p q = absurd (omega arith)

  filter_both : (p q : A → Bool) (xs : List A) → filter q (filter p xs) ≡ filter (λ x. p x && q x) xs
  filter_both p q [] = refl
  filter_both p q (x ∷ xs) =
      elim (p x) as (λ b. filter q (cond b (x ∷ filter p xs) (filter p xs)) ≡ cond (b && q x) (x ∷ filter (λ x. p x && q x) xs) (filter (λ x. p x && q x) xs)) [
        | true ↦ ap (λ xs. cond (q x) (x ∷ xs) xs) (filter_both p q xs)
        | false ↦ filter_both p q xs
      ]

-- a list in the order of its keys has each of them once
module _ {A : Type 0} (key : A → ℕ) where
  none_above : (least : ℕ) (xs : List A) → AllByRecursion (λ x. least < key x) xs → count_by (λ x. eqb (key x) least) xs ≡ 0
  none_above least [] above = refl
  none_above least (x ∷ xs) above =
      omega (arith, sum_by-cons (λ x. cond {A = ℕ} (eqb (key x) least) 1 0) x xs, none_above least xs above.1, ap (λ b. cond {A = ℕ} b 1 0) (ne_eqb (key x) least (λ is. absurd (omega (arith, is, above.0)))))

  pub once_ascending : (xs : List A) → IsAscendingBy key xs → HasDistinctKeys key xs
  once_ascending [] up id = omega arith
  once_ascending (x ∷ xs) up id =
      let count = sum_by-cons (λ x. cond {A = ℕ} (eqb (key x) id) 1 0) x xs in
      elim (cases_Bool (eqb (key x) id)) [
        | inl here ↦
            let above = subst (λ k. AllByRecursion (λ y. k < key y) xs) (eqb-true (key x) id here) (recursion_from_All (λ y. key x < key y) xs up.0) in
            omega (arith, count, none_above id xs above, ap (λ b. cond {A = ℕ} b 1 0) here)
        | inr away ↦ omega (arith, count, once_ascending xs up.1 id, ap (λ b. cond {A = ℕ} b 1 0) away)
      ]

module _ {R : Type 0} (values : R → Row) (key : R → ℕ) (fits : R → Type 0) (cols : List ℕ)
    (tells : (r s : R) → fits r → fits s → agree plain cols (values r) cols (values s) ≡ true → key r ≡ key s) where
  -- of the typed rows at most one agrees with one of them
  module _ (s : R) (narrow : fits s) where
    abbrev agrees : Row → Bool
    agrees c = agree plain cols c cols (values s)

    fewer : (typed : List R) → AllByRecursion fits typed
        → length (filter agrees (map values typed)) ≤ count_by (λ r. eqb (key r) (key s)) typed
    fewer [] all = omega arith
    fewer (r ∷ typed) all =
        let behind = fewer typed all.1 in
        let count = sum_by-cons (λ r. cond {A = ℕ} (eqb (key r) (key s)) 1 0) r typed in
        elim (agrees (values r)) as (λ b. agrees (values r) ≡ b
        → length (cond b (values r ∷ filter agrees (map values typed)) (filter agrees (map values typed))) ≤ count_by (λ r. eqb (key r) (key s)) (r ∷ typed)) [
          | true ↦ λ is. omega (arith, behind, count, ap (λ b. cond {A = ℕ} b 1 0) (eq-eqb (key r) (key s) (tells r s all.0 narrow is)))
          | false ↦ λ is. omega (arith, behind, count)
        ] refl

  -- so it is in the table
  module _ (tree width : ℕ) (tenant : ℤ) (trees : Trees) (typed : List R) (held : HasRows values typed (rows_in tree width tenant trees))
      (all : AllByRecursion fits typed) (once : HasDistinctKeys key typed) where
    abbrev cells : Row → Row
    cells = cells_from 2 width

    few : (s : R) → fits s → length (filter (λ r. is_own tenant r && agree plain cols (cells r) cols (values s)) (trees tree)) ≤ 1
    few s narrow =
        let p : Row → Bool = λ c. agree plain cols c cols (values s) in
        let counts : Row → ℕ = λ c. cond {A = ℕ} (p c) 1 0 in
        let mapped = filter-map p cells (filter (is_own tenant) (trees tree)) in
        let both = filter_both (is_own tenant) (λ r. p (cells r)) (trees tree) in
        omega (
          arith,
          ap length mapped,
          length-map (filter (λ r. p (cells r)) (filter (is_own tenant) (trees tree))) cells,
          ap length both,
          length-filter p (rows_in tree width tenant trees),
          length-filter p (map values typed),
          sum_by-IsPermutation counts (map values typed) (rows_in tree width tenant trees) held,
          fewer s narrow typed all,
          once (key s),
        )

    -- the typed row of one in the table
    typed_row : (x : Row) → Has (trees tree) x → is_own tenant x ≡ true → (s : R) × Has typed s × (cells x ≡ values s)
    typed_row x here own =
        let among = has_mapped cells (filter (is_own tenant) (trees tree)) x (has_kept (is_own tenant) (trees tree) x here own) in
        of_mapped values typed (cells x)
        (has_contained (map values typed) (cells x)
        (Contains-permutation (rows_in tree width tenant trees) (map values typed) (cells x)
        (IsPermutation-sym (map values typed) (rows_in tree width tenant trees) held) (contains_had (rows_in tree width tenant trees) (cells x) among)))

    pub one_row : (x y : Row) → Has (trees tree) x → Has (trees tree) y → is_own tenant x ≡ true → is_own tenant y ≡ true
        → agree plain cols (cells y) cols (cells x) ≡ true → y ≡ x
    one_row x y here there own_x own_y agreed =
        let s = typed_row x here own_x in
        let itself = agree_chain plain cols cols cols (cells x) (cells y) (cells x) (agree_back plain cols cols (cells y) (cells x) agreed) agreed in
        let to_s = λ (c : Row) (is : agree plain cols c cols (cells x) ≡ true). subst (λ v. agree plain cols c cols v ≡ true) s.2 is in
        let q : Row → Bool = λ r. is_own tenant r && agree plain cols (cells r) cols (values s.0) in
        same_has (filter q (trees tree)) x y (few s.0 (all_has fits typed s.0 all s.1))
        (has_kept q (trees tree) x here (and_from _ _ own_x (to_s (cells x) itself)))
        (has_kept q (trees tree) y there (and_from _ _ own_y (to_s (cells y) agreed)))
