-- How the tenants of a database are found: what follows of the rows of the directory.
use Rattle.std.proofs.Common.{◌≡◌, ℕ, ◌≤◌, ℤ, ◌⊎◌, inl, inr, Bool, true, false, cond, Option, Some, None, option_map, List, [], ◌∷◌, map, filter, length, refl, sym, ap, subst, ◌∙◌, arith}
use Rattle.std.specs.List.{AllByRecursion}
use Rattle.std.proofs.lemmas.List.Elements.{All-cons, All-nil}
use Rattle.std.proofs.lemmas.List.Sorted.{length_permutation, All-permutation}
use Rattle.sqlite_value.specs.declared.value.Value.{Value}
use Rattle.sqlite_value.specs.declared.value.Value.TheVariants.{Int}
use Rattle.sqlite_value.specs.Order.{Row, column}
use Rattle.sqlite_trees.specs.Tree.{Trees}
use Rattle.sqlite_trees.proofs.ListLemmas.{filter-map, map-map}
use Rattle.ledger_sql.specs.Effects.{Picks}
use Rattle.ledger_sql.specs.Schema.{tenant_tree}
use Rattle.ledger_sql.specs.TableRows.{directory_rows, numbers_with_digest, is_blob, cells_from}
use Rattle.stored_ledgers.specs.Directory.{with_digest, first_number, number_in, number_of}

-- of at most one row the first is the one that a query picks
first_picked : (rows : List Row) (found : Option ℤ) → length rows ≤ 1
    → Picks (map (λ row. column row 0 ∷ []) rows) (option_map (λ n. Int n ∷ []) found)
    → first_number rows ≡ found
first_picked [] None few picks = refl
first_picked [] (Some n) few picks = absurd (omega (arith, length_permutation _ _ picks.1))
first_picked (row ∷ []) None few picks = absurd (cc)
first_picked (row ∷ []) (Some n) few picks =
    let cell : Row = column row 0 ∷ [] in
    let all = All-permutation (λ y. y ≡ cell) _ _ picks.1
    (All-cons (λ y. y ≡ cell) cell [] refl (All-nil (λ y. y ≡ cell))) in
    let same : Int n ∷ [] ≡ cell = all 0 [] (omega arith) in
    let is : Int n ≡ column row 0 = cc in
    ap number_in (sym is)
first_picked (row ∷ other ∷ rows) found few picks = absurd (omega arith)

-- a tenant is found by its digest
pub found_number : (digest : List ℕ) (trees : Trees) (found : Option ℤ)
    → length (with_digest digest trees) ≤ 1
    → Picks (numbers_with_digest digest trees) (option_map (λ n. Int n ∷ []) found)
    → number_of digest trees ≡ found
unfolding number_of
found_number digest trees found few picks =
    let entry : Row → Row = λ row. column row 0 ∷ cells_from 2 2 row in
    let entries = filter (λ row. is_blob digest (column row 3)) (trees tenant_tree) in
    let same : with_digest digest trees ≡ map entry entries = filter-map _ entry (trees tenant_tree) in
    let numbers : map (λ row. column row 0 ∷ []) (map entry entries) ≡ numbers_with_digest digest trees
    = map-map _ entry entries in
    ap first_number same
    ∙ first_picked (map entry entries) found (subst (λ rows. length rows ≤ 1) same few)
    (subst (λ rows. Picks rows (option_map (λ n. Int n ∷ []) found)) (sym numbers) picks)

-- a row is among some rows
abbrev pub Among : Row → List Row → Type 0
Among row [] = ⊥
Among row (other ∷ rows) = (row ≡ other) ⊎ Among row rows

-- what holds of each row holds of one that is among them
pub all_among : (P : Row → Type 0) (rows : List Row) (row : Row) → AllByRecursion P rows
    → Among row rows → P row
all_among P [] row all is = absurd is
all_among P (other ∷ rows) row all (inl same) = subst P (sym same) all.0
all_among P (other ∷ rows) row all (inr later) = all_among P rows row all.1 later

-- of at most one row it is the only one
pub only_among : (rows : List Row) (row : Row) → length rows ≤ 1 → Among row rows
    → rows ≡ row ∷ []
only_among [] row few is = absurd is
only_among (other ∷ []) row few (inl same) = ap (λ r. r ∷ []) (sym same)
only_among (other ∷ []) row few (inr later) = absurd later
only_among (other ∷ another ∷ rows) row few is = absurd (omega arith)

pub same_among : (rows : List Row) (a b : Row) → length rows ≤ 1 → Among a rows → Among b rows
    → a ≡ b
same_among rows a b few is_a is_b =
    let same = sym (only_among rows a few is_a) ∙ only_among rows b few is_b in cc

pub filter_head : (p : Row → Bool) (rows : List Row) (row : Row) (rest : List Row)
    → filter p rows ≡ row ∷ rest → Among row rows × (p row ≡ true)
filter_head p [] row rest is = absurd (cc)
filter_head p (other ∷ rows) row rest is =
    elim (p other) as (λ b. p other ≡ b → cond b (other ∷ filter p rows) (filter p rows) ≡ row ∷ rest
    → Among row (other ∷ rows) × (p row ≡ true)) [
      | true ↦ λ passes same. let here : other ≡ row = cc in (inl (sym here), ap p (sym here) ∙ passes)
      | false ↦ λ fails same. let tail = filter_head p rows row rest same in (inr tail.0, tail.1)
    ] refl is

number_is : (value : Value) (number : ℤ) → number_in value ≡ Some number → value ≡ Int number
number_is (Int n) number is = cc
number_is value number is = absurd (cc)

-- the row of a tenant that is found by its digest
pub record IsFoundByDigest (digest : List ℕ) (number : ℤ) (rows : List Row) : Type 0 where
  pub row : Row
  pub among : Among row rows
  pub has_digest : is_blob digest (column row 2) ≡ true
  pub has_number : column row 0 ≡ Int number

found_first : (digest : List ℕ) (number : ℤ) (rows found : List Row)
    → filter (λ row. is_blob digest (column row 2)) rows ≡ found → first_number found ≡ Some number
    → IsFoundByDigest digest number rows
found_first digest number rows [] same is = absurd (cc)
found_first digest number rows (row ∷ rest) same is =
    let head = filter_head _ rows row rest same in record {
      row = row;
      among = head.0;
      has_digest = head.1;
      has_number = number_is (column row 0) number is;
    }

pub found_row : (digest : List ℕ) (number : ℤ) (trees : Trees)
    → number_of digest trees ≡ Some number → IsFoundByDigest digest number (directory_rows trees)
unfolding number_of
found_row digest number trees is =
    found_first digest number (directory_rows trees) (with_digest digest trees) refl is
