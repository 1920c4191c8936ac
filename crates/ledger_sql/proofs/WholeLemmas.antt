-- What the texts that read the version and the directory answer.
use Rattle.std.proofs.Common.{◌≡◌, ℕ, ℤ, List, [], ◌∷◌, ◌+◌, get_or, false, map, filter, true, Ok, Err, Result, IfOk, refl, ap, subst, ◌∙◌}
use Rattle.std.specs.declared.cmp.Ordering.{Ordering}
use Rattle.std.specs.Ordering.{int_cmp, is_lt}
use Rattle.std.specs.Prelude.{take}
use Rattle.std.specs.List.{list_all}
use Rattle.std.specs.List.Sorted.{IsPermutation, IsSorted}
use Rattle.sqlite_value.specs.declared.keys.Key.{Key}
use Rattle.sqlite_value.specs.declared.value.Value.TheVariants.{Int}
use Rattle.sqlite_value.specs.Order.{Row, column, value_cmp, row_cmp}
use Rattle.sqlite_value.proofs.OrderLemmas.{value_cmp-Int, then-Equal}
use Rattle.sqlite_exec.proofs.PartitionLemmas.{IsSorted-from_map}
use Rattle.sqlite_trees.specs.Tree.{Trees}
use Rattle.sqlite_sql.specs.Term.{Term, col, eval_all, holds}
use Rattle.sqlite_schema.specs.declared.schema.Schema.{Schema}
use Rattle.sqlite.specs.State.{State, Shown}
use Rattle.ledger_sql.specs.Schema.{schema_tree}
use Rattle.ledger_sql.specs.TableRows.{cells_from, version_rows}
use Rattle.ledger_sql.specs.Values.{version_values}
use Rattle.ledger_sql.specs.Reading.{ReadsRows}
use Rattle.ledger_sql.proofs.AnswerLemmas.{IsPlainText, IsOrderedBy, all_shown, all_ordered}
use Rattle.ledger_sql.proofs.KeyLemmas.{columns_from, columns_shown, map_same}

all_pass : {A : Type 0} (xs : List A) → filter (λ _. true) xs ≡ xs
all_pass [] = refl
all_pass (x ∷ xs) = ap (λ l. x ∷ l) (all_pass xs)

module _ (sql : List ℕ) (schema : Schema) (tree place width : ℕ) (order : List (Term × Key)) (text : IsPlainText sql schema tree [] (col 1 place ∷ columns_from 2 width) order) (old new : State)
    (has : old.now.schema ≡ schema) where
  all_read : (rows : List Row) → Shown sql [] old new rows → IsPermutation (map (λ row. column row place ∷ cells_from 2 width row) (old.now.trees tree)) rows
  all_read rows h =
      let shown = all_shown sql schema tree [] (col 1 place ∷ columns_from 2 width) order text [] old new has rows h in
      let every = ap (map (λ (r : Row). eval_all (col 1 place ∷ columns_from 2 width) ([] ∷ r ∷ []))) (all_pass (old.now.trees tree)) in
      let each = map_same (λ (r : Row). eval_all (col 1 place ∷ columns_from 2 width) ([] ∷ r ∷ [])) (λ r. column r place ∷ cells_from 2 width r) (λ r. ap (λ cells. column r place ∷ cells) (columns_shown 2 width [] r)) (old.now.trees tree) in
      subst (λ xs. IsPermutation xs rows) (every ∙ each) shown

  module _ (keys : ℕ) (by_keys : IsOrderedBy (col 1 place ∷ columns_from 2 width) order (λ a b. row_cmp (take keys a) (take keys b))) where
    abbrev cmp_keys : Row → Row → Ordering
    cmp_keys a b = row_cmp (take keys a) (take keys b)

    pub rows_read : {R Y E : Type 0} (values : R → Row) (cmp : R → R → Ordering) → ((a b : R) → cmp_keys (values a) (values b) ≡ cmp a b) → (items_of : Y → List R)
        → (got : Result Y E) → IfOk got (λ y. Shown sql [] old new (map values (items_of y))) → IfOk got (λ y. ReadsRows values cmp (map (λ row. column row place ∷ cells_from 2 width row) (old.now.trees tree)) (items_of y))
    rows_read values cmp orders items_of (Err e) ok = tt
    rows_read values cmp orders items_of (Ok y) ok =
        let rows : List Row = map values (items_of y) in
        let sorted : IsSorted cmp_keys rows = all_ordered sql schema tree [] (col 1 place ∷ columns_from 2 width) order text [] old new has cmp_keys by_keys rows ok in
        record {
          all = all_read rows ok;
          order = λ k d low high. subst (λ o. is_lt o ≡ false) (orders (get_or (items_of y) (k + 1) d) (get_or (items_of y) k d)) (IsSorted-from_map cmp_keys values (items_of y) sorted k d low high);
        }

-- the order of the directory
pub by_number : (m n : ℤ) → row_cmp (Int m ∷ []) (Int n ∷ []) ≡ int_cmp m n
by_number m n = then-Equal (value_cmp (Int m) (Int n)) ∙ value_cmp-Int m n

pub version_view : (db : Trees) → map (λ (r : Row). eval_all (columns_from 2 1) ([] ∷ r ∷ [])) (filter (λ (r : Row). list_all (holds ([] ∷ r ∷ [])) []) (db schema_tree)) ≡ version_rows db
version_view db = ap (map (λ (r : Row). column r 2 ∷ [])) (all_pass (db schema_tree))

-- all versions that a file has
pub versions_read : (sql : List ℕ) (schema : Schema) (text : IsPlainText sql schema 0 [] (columns_from 2 1) []) (old new : State)
    → old.now.schema ≡ schema → {Y E : Type 0} (items_of : Y → List ℤ) (got : Result Y E)
    → IfOk got (λ y. Shown sql [] old new (map version_values (items_of y)))
    → IfOk got (λ y. IsPermutation (version_rows old.now.trees) (map version_values (items_of y)))
versions_read sql schema text old new has items_of (Err e) ok = tt
versions_read sql schema text old new has items_of (Ok y) ok =
    subst (λ rows. IsPermutation rows (map version_values (items_of y))) (version_view old.now.trees)
    (all_shown sql schema 0 [] (columns_from 2 1) [] text [] old new has (map version_values (items_of y)) ok)
