-- What a text that reads a tenant's rows of a table answers.
use Rattle.std.proofs.Common.{◌≡◌, ℕ, ℤ, List, [], ◌∷◌, ◌+◌, get_or, false, true, map, filter, ◌&&◌, Ok, Err, Result, IfOk, refl, ap, subst, ◌∙◌}
use Rattle.std.specs.declared.cmp.Ordering.{Ordering}
use Rattle.std.specs.Ordering.{int_cmp, is_lt, ordering_then}
use Rattle.std.specs.Prelude.{take}
use Rattle.std.specs.List.{list_all}
use Rattle.std.specs.List.Sorted.{IsPermutation, IsSorted}
use Rattle.sqlite_value.specs.declared.keys.Key.{Key}
use Rattle.sqlite_value.specs.declared.value.Value.TheVariants.{Int, Blob}
use Rattle.sqlite_value.specs.Order.{Row, column, value_cmp, row_cmp}
use Rattle.sqlite_value.proofs.OrderLemmas.{value_cmp-Blob, then-Equal}
use Rattle.sqlite_exec.proofs.PartitionLemmas.{IsSorted-from_map}
use Rattle.sqlite_trees.proofs.ListLemmas.{all_of, filter_same}
use Rattle.sqlite_sql.specs.Term.{Term, holds}
use Rattle.sqlite_schema.specs.declared.schema.Schema.{Schema}
use Rattle.sqlite.specs.State.{State, HasCleanDisk, Shown}
use Rattle.ledger_sql.specs.Calls.{LeavesRead, LeavesListed}
use Rattle.ledger_sql.specs.Effects.{StartsAs}
use Rattle.ledger_sql.specs.TableRows.{is_int, cells_from}
use Rattle.ledger_sql.specs.Reading.{id_cmp, ReadsRows}
use Rattle.ledger_sql.proofs.AnswerLemmas.{IsOrderedBy, equals_int, all_shown, all_ordered}
use Rattle.ledger_sql.proofs.KeyLemmas.{is_param, columns_from, columns_shown, map_same, and_true}
use Rattle.ledger_sql.proofs.OwnTexts.{IsOwn}
use Rattle.ledger_sql.proofs.WholeLemmas.{by_number}

module _ (tenant : ℤ) (sql : List ℕ) (schema : Schema) (tree place width : ℕ) (order : List (Term × Key)) (text : IsOwn tree place width order sql schema) (old new : State)
    (has : old.now.schema ≡ schema) where
  abbrev keys : Row
  keys = Int tenant ∷ []

  abbrev own : List Row
  own = map (cells_from 2 width) (filter (λ row. is_int tenant (column row place)) (old.now.trees tree))

  passes_own : (r : Row) → list_all (holds (keys ∷ r ∷ [])) (is_param place 0 ∷ []) ≡ is_int tenant (column r place)
  passes_own r = (λ i. equals_int (column r place) tenant i && true) ∙ and_true (is_int tenant (column r place))

  own_shown : (rows : List Row) → Shown sql keys old new rows → IsPermutation own rows
  own_shown rows h =
      let shown = all_shown sql schema tree (is_param place 0 ∷ []) (columns_from 2 width) order text keys old new has rows h in
      let those = filter_same (λ r. list_all (holds (keys ∷ r ∷ [])) (is_param place 0 ∷ [])) (λ row. is_int tenant (column row place)) (old.now.trees tree) (all_of _ passes_own (old.now.trees tree)) in
      subst (λ xs. IsPermutation xs rows) (map_same _ (cells_from 2 width) (columns_shown 2 width keys) _ ∙ ap (map (cells_from 2 width)) those) shown

  module _ (count : ℕ) (by_keys : IsOrderedBy (columns_from 2 width) order (λ a b. row_cmp (take count a) (take count b))) where
    abbrev cmp_keys : Row → Row → Ordering
    cmp_keys a b = row_cmp (take count a) (take count b)

    -- all of them are read, in order
    own_read : {R Y E : Type 0} (values : R → Row) (cmp : R → R → Ordering) → ((a b : R) → cmp_keys (values a) (values b) ≡ cmp a b) → (items_of : Y → List R)
        → (key : Row) → key ≡ Int tenant ∷ [] → (got : Result Y E) → IfOk got (λ y. Shown sql key old new (map values (items_of y))) → IfOk got (λ y. ReadsRows values cmp own (items_of y))
    own_read values cmp orders items_of key is (Err e) ok = tt
    own_read values cmp orders items_of key is (Ok y) ok =
        let rows : List Row = map values (items_of y) in
        let shown : Shown sql keys old new rows = subst (λ k. Shown sql k old new rows) is ok in
        let sorted : IsSorted cmp_keys rows = all_ordered sql schema tree (is_param place 0 ∷ []) (columns_from 2 width) order text keys old new has cmp_keys by_keys rows shown in
        record {
          all = own_shown rows shown;
          order = λ k d low high. subst (λ o. is_lt o ≡ false) (orders (get_or (items_of y) (k + 1) d) (get_or (items_of y) k d)) (IsSorted-from_map cmp_keys values (items_of y) sorted k d low high);
        }

-- the contract of a function that reads them
pub own_listed : {R Y E : Type 0} (values : R → Row) (cmp : R → R → Ordering) (items_of : Y → List R) (ours : Schema) (tenant : ℤ) (sql : List ℕ) (tree place width : ℕ) (order : List (Term × Key))
    → ((s : Schema) → StartsAs ours.tables s → IsOwn tree place width order sql s) → (count : ℕ) → IsOrderedBy (columns_from 2 width) order (λ a b. row_cmp (take count a) (take count b))
    → ((a b : R) → row_cmp (take count (values a)) (take count (values b)) ≡ cmp a b) → (old new : State) (key : Row) → key ≡ Int tenant ∷ [] → (got : Result Y E)
    → (HasCleanDisk new → IfOk got (λ y. Shown sql key old new (map values (items_of y)))) → LeavesRead old new got
    → LeavesListed ours (λ trees y. ReadsRows values cmp (map (cells_from 2 width) (filter (λ row. is_int tenant (column row place)) (trees tree))) (items_of y)) old new got
own_listed values cmp items_of ours tenant sql tree place width order text count by_keys orders old new key is got shown reads = record {
  whole = λ clean starts. own_read tenant sql old.now.schema tree place width order (text old.now.schema starts) old new refl count by_keys values cmp orders items_of key is got (shown clean);
  reads = reads;
}

-- ---- the orders of keys

pub by_id : (a b : List ℕ) → row_cmp (Blob a ∷ []) (Blob b ∷ []) ≡ id_cmp a b
by_id a b = then-Equal (value_cmp (Blob a) (Blob b)) ∙ value_cmp-Blob a b

pub by_id_and_time : (a b : List ℕ) (m n : ℤ) → row_cmp (Blob a ∷ Int m ∷ []) (Blob b ∷ Int n ∷ []) ≡ ordering_then (id_cmp a b) (int_cmp m n)
by_id_and_time a b m n = (λ i. ordering_then (value_cmp-Blob a b i) (by_number m n i))
