-- From rows with a key to rows in the words of a ledger's tables.
use Rattle.std.proofs.Common.{◌≡◌, ℕ, ℤ, suc, Bool, true, false, cond, ◌&&◌, List, [], ◌∷◌, map, filter, Option, Some, None, refl, sym, ap, subst, ◌∙◌, IsPermutation, Ordering, Less, Equal, Greater, is_eq, option_map}
use Rattle.std.specs.Ordering.{ordering_then}
use Rattle.std.proofs.lemmas.List.Sorted.{IsPermutation-map}
use Rattle.std.proofs.lemmas.Map.Text.{is_eq-slice_cmp}
use Rattle.sqlite_value.specs.declared.value.Value.{Value}
use Rattle.sqlite_value.specs.declared.value.Value.TheVariants.{Null, Int, Real, Text, Blob}
use Rattle.sqlite_value.specs.Order.{Row, column, value_cmp}
use Rattle.sqlite_value.specs.Keys.{by_key}
use Rattle.sqlite_value.proofs.KeyLemmas.{first_key-plain}
use Rattle.sqlite_value.proofs.OrderLemmas.{value_cmp-Int, value_cmp-Text, value_cmp-Blob, value_cmp-apart}
use Rattle.sqlite_trees.specs.Tree.{Trees, rowid, has_rowid}
use Rattle.sqlite_trees.proofs.ListLemmas.{filter-map, filter_same, all_of, IsPermutation-same}
use Rattle.keyed_trees.specs.Rows.{Finds, FindsAt, has_key, row_of}
use Rattle.ledger_sql.specs.Effects.{Picks}
use Rattle.ledger_sql.specs.TableRows.{is_int, is_blob, is_text, is_own, cells_from, rows_in, has_id, with_id}
use Rattle.ledger_layout.specs.Keys.{by_id, by_name, by_digest}

pub is_int_is : (n : ℤ) (v : Value) → is_eq (value_cmp v (Int n)) ≡ is_int n v
is_int_is n Null = ap is_eq (value_cmp-apart Null (Int n) (λ e. cc))
is_int_is n (Int m) = ap is_eq (value_cmp-Int m n)
is_int_is n (Real x) = refl
is_int_is n (Text t) = ap is_eq (value_cmp-apart (Text t) (Int n) (λ e. cc))
is_int_is n (Blob b) = ap is_eq (value_cmp-apart (Blob b) (Int n) (λ e. cc))

pub is_blob_is : (b : List ℕ) (v : Value) → is_eq (value_cmp v (Blob b)) ≡ is_blob b v
is_blob_is b Null = ap is_eq (value_cmp-apart Null (Blob b) (λ e. cc))
is_blob_is b (Int m) = ap is_eq (value_cmp-apart (Int m) (Blob b) (λ e. cc))
is_blob_is b (Real x) = ap is_eq (value_cmp-apart (Real x) (Blob b) (λ e. cc))
is_blob_is b (Text t) = ap is_eq (value_cmp-apart (Text t) (Blob b) (λ e. cc))
is_blob_is b (Blob c) = ap is_eq (value_cmp-Blob c b) ∙ is_eq-slice_cmp c b

pub is_text_is : (t : List ℕ) (v : Value) → is_eq (value_cmp v (Text t)) ≡ is_text t v
is_text_is t Null = ap is_eq (value_cmp-apart Null (Text t) (λ e. cc))
is_text_is t (Int m) = ap is_eq (value_cmp-apart (Int m) (Text t) (λ e. cc))
is_text_is t (Real x) = ap is_eq (value_cmp-apart (Real x) (Text t) (λ e. cc))
is_text_is t (Text s) = ap is_eq (value_cmp-Text s t) ∙ is_eq-slice_cmp s t
is_text_is t (Blob b) = ap is_eq (value_cmp-apart (Blob b) (Text t) (λ e. cc))

one_equal : (a : Ordering) → is_eq (ordering_then a Equal) ≡ is_eq a
one_equal Less = refl
one_equal Equal = refl
one_equal Greater = refl

pub both_equal : (a b : Ordering) → is_eq (ordering_then a (ordering_then b Equal)) ≡ (is_eq a && is_eq b)
both_equal Less b = refl
both_equal Equal Less = refl
both_equal Equal Equal = refl
both_equal Equal Greater = refl
both_equal Greater b = refl

pub filter_both : {A : Type 0} (p q : A → Bool) (xs : List A) → filter q (filter p xs) ≡ filter (λ x. p x && q x) xs
filter_both p q [] = refl
filter_both p q (x ∷ xs) = elim (p x) as (λ b. filter q (cond b (x ∷ filter p xs) (filter p xs)) ≡ cond (b && q x) (x ∷ filter (λ x. p x && q x) xs) (filter (λ x. p x && q x) xs)) [
  | true ↦ ap (λ xs. cond (q x) (x ∷ xs) xs) (filter_both p q xs)
  | false ↦ filter_both p q xs
]

module _ (table : ℕ) (tenant : ℤ) (id : List ℕ) where
  abbrev pub id_key : Row
  id_key = Int tenant ∷ Blob id ∷ []

  pub keyed : (r : Row) → has_key (by_id table) id_key r ≡ (is_own tenant r && is_blob id (column r 2))
  keyed r =
      ap (λ k. is_eq (ordering_then (by_key k (column r 1) (Int tenant)) (ordering_then (by_key k (column r 2) (Blob id)) Equal))) first_key-plain
      ∙ both_equal (value_cmp (column r 1) (Int tenant)) (value_cmp (column r 2) (Blob id))
      ∙ (λ j. is_int_is tenant (column r 1) j && is_blob_is id (column r 2) j)

  module _ (others : ℕ) where
    abbrev cells : Row → Row
    cells = cells_from 2 (suc others)

    pub shown : (trees : Trees) → map (cells_from 2 (suc others)) (filter (has_key (by_id table) id_key) (trees table)) ≡ with_id id (rows_in table (suc others) tenant trees)
    shown trees =
        let rows = trees table in
        ap (map cells) (filter_same (has_key (by_id table) id_key) (λ r. is_own tenant r && is_blob id (column r 2)) rows (all_of _ keyed rows))
        ∙ sym (filter-map (has_id id) cells (filter (is_own tenant) rows) ∙ ap (map cells) (filter_both (is_own tenant) (λ r. is_blob id (column r 2)) rows))

    -- what was found by the key is the tenant's row with the id
    module _ {R C : Type 0} (number : R → ℤ) (part : R → C) (values : C → Row) (shows : (it : C) (rowid tenant : Value) → cells_from 2 (suc others) (rowid ∷ tenant ∷ values it) ≡ values it) where
      pub picks : (trees : Trees) (found : Option (ℤ × R)) → Finds (λ r. Int (number r) ∷ values (part r)) (has_key (by_id table) id_key) (trees table) found
          → Picks (with_id id (rows_in table (suc others) tenant trees)) (option_map values (option_map (λ it. part it.1) found))
      picks trees None none = sym (shown trees) ∙ ap (map cells) none
      picks trees (Some it) found = (
        map cells found.0,
        subst (λ xs. IsPermutation xs (values (part it.1) ∷ map cells found.0)) (shown trees)
            (subst (λ v. IsPermutation (map cells (filter (has_key (by_id table) id_key) (trees table))) (v ∷ map cells found.0)) (shows (part it.1) (Int it.0) (Int (number it.1)))
            (IsPermutation-map cells _ _ found.1)),
      )

-- ---- the directory, and rows by their rowids

pub numbered : (n : ℤ) (r : Row) → has_rowid n r ≡ is_int n (column r 0)
numbered n r = is_int_is n (rowid r)

pub named : (name : List ℕ) (r : Row) → has_key by_name (Text name ∷ []) r ≡ is_text name (column r 2)
named name r = ap (λ k. is_eq (ordering_then (by_key k (column r 2) (Text name)) Equal)) first_key-plain ∙ one_equal (value_cmp (column r 2) (Text name)) ∙ is_text_is name (column r 2)

pub digested : (digest : List ℕ) (r : Row) → has_key by_digest (Blob digest ∷ []) r ≡ is_blob digest (column r 3)
digested digest r = ap (λ k. is_eq (ordering_then (by_key k (column r 3) (Blob digest)) Equal)) first_key-plain ∙ one_equal (value_cmp (column r 3) (Blob digest)) ∙ is_blob_is digest (column r 3)

-- what was found by one test is what another picks that says the same, as it is seen
pub picks_seen : {R : Type 0} (cells : R → Row) (p q : Row → Bool) (seen : Row → Row) (rows : List Row) → ((r : Row) → p r ≡ q r) → (found : Option (ℤ × R)) → Finds cells p rows found
    → Picks (map seen (filter q rows)) (option_map (λ it. seen (row_of cells it)) found)
picks_seen cells p q seen rows same None none = ap (map seen) (sym (filter_same p q rows (all_of _ same rows)) ∙ none)
picks_seen cells p q seen rows same (Some it) found = (
  map seen found.0,
  subst (λ xs. IsPermutation (map seen xs) (seen (row_of cells it) ∷ map seen found.0)) (filter_same p q rows (all_of _ same rows)) (IsPermutation-map seen _ _ found.1),
)

-- the one row at a rowid is one that has it
pub found_at : {R : Type 0} (cells : R → Row) (id : ℤ) (rows : List Row) (found : Option (ℤ × R)) → FindsAt cells id rows found → Finds cells (has_rowid id) rows found
found_at cells id rows None it = it
found_at cells id rows (Some row) it = ([], IsPermutation-same _ _ it)
