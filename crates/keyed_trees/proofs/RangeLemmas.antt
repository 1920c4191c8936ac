-- The rows of a range of a key are those of the table whose entries are within it, in a walk's order.
use Rattle.std.proofs.Common.{◌≡◌, ◌<◌, ℕ, ℤ, Bool, true, false, List, [], ◌∷◌, map, filter, length, take, refl, sym, ap, subst, ◌∙◌, arith, Result, Ok, Err, IfOk, OnOk, IsPermutation, IsSorted, is_gt}
use Rattle.std.specs.List.{AllByRecursion, flat_map}
use Rattle.std.specs.Cmp.{IsTotalOrder}
use Rattle.std.proofs.lemmas.Cmp.{on_total, back_total, tied_itself}
use Rattle.std.proofs.lemmas.List.{length-map, length-take, take_all}
use Rattle.std.proofs.lemmas.List.Sorted.{IsPermutation-trans}
use Rattle.sqlite_value.specs.Order.{Row}
use Rattle.sqlite_value.specs.declared.keys.Order.{Order}
use Rattle.sqlite_value.proofs.KeyLemmas.{entry_cmp_total}
use Rattle.sqlite_trees.specs.declared.store.Direction.{Direction}
use Rattle.sqlite_trees.specs.declared.store.Direction.TheVariants.{Forward, Backward}
use Rattle.sqlite_trees.specs.declared.store.Shape.TheVariants.{Table, Index as Ordered}
use Rattle.sqlite_trees.specs.Tree.{IsAscending}
use Rattle.sqlite_trees.specs.View.{View, IsOrdered, IsShaped}
use Rattle.sqlite_trees.proofs.ListLemmas.{all_both, all-filter, all-flat_map, all-map, all-permutation, all_weaker, ascending-append, filter-map, flat_map-map, flat_map_same, IsPermutation-filter, IsPermutation-flat_map}
use Rattle.sqlite_trees.proofs.TreeLemmas.{IsSortedTree, sorted_shape}
use Rattle.sqlite_sql.specs.Catalog.{entry_of, IsIndexOf}
use Rattle.sqlite_exec.specs.Plan.{range, resolved}
use Rattle.sqlite_exec.proofs.PartitionLemmas.{sorted_from_ascending}
use Rattle.sqlite_exec.proofs.ScanLemmas.{Precedes, is_within, range_all, range_in_order, range_same, resolves}
use Rattle.keyed_trees.specs.Layout.{KeyShape}
use Rattle.keyed_trees.specs.Rows.{ReadsAll, ReadsRange, is_backward, is_in_range, row_of, walk_cmp}
use Rattle.keyed_trees.specs.StoreCalls.{AreReadUpTo, Serves, rows_in_range}

-- rows to which entries lead are in the entries' order
module _ (o : Order) (backward : Bool) (columns : List ℕ) (lead : Row → List Row) where
  abbrev LeadsBack : Row → Type 0
  LeadsBack e = AllByRecursion (λ r. e ≡ entry_of columns r) (lead e)

  abbrev Before : Row → Row → Type 0
  Before a b = Precedes o backward (entry_of columns a) (entry_of columns b)

  not_after_itself : (direction : Bool) (e : Row) → Precedes o direction e e
  not_after_itself false e = ap is_gt (tied_itself (entry_cmp_total o) e)
  not_after_itself true e = ap is_gt (tied_itself (entry_cmp_total o) e)

  same_entry : (e : Row) (rows : List Row) → AllByRecursion (λ r. e ≡ entry_of columns r) rows → IsAscending Before rows
  same_entry e [] all = tt
  same_entry e (a ∷ rows) all =
      (all_weaker (λ r. e ≡ entry_of columns r) (Before a) (λ b is. subst (λ x. Precedes o backward x (entry_of columns b)) all.0 (subst (Precedes o backward e) is (not_after_itself backward e))) rows all.1, same_entry e rows all.1)

  pub leads_in_order : (entries : List Row) → AllByRecursion LeadsBack entries → IsAscending (Precedes o backward) entries → IsAscending Before (flat_map lead entries)
  leads_in_order [] each up = tt
  leads_in_order (e ∷ entries) each up =
      ascending-append Before (lead e) (flat_map lead entries) (same_entry e (lead e) each.0) (leads_in_order entries each.1 up.1)
      (all_weaker (λ r. e ≡ entry_of columns r) (λ a. AllByRecursion (Before a) (flat_map lead entries))
      (λ a is. all-flat_map (Before a) lead entries
      (all_both (Precedes o backward e) LeadsBack (λ f. AllByRecursion (Before a) (lead f))
      (λ f below back. all_weaker (λ r. f ≡ entry_of columns r) (Before a) (λ b at. subst (λ x. Precedes o backward x (entry_of columns b)) is (subst (Precedes o backward e) at below)) (lead f) back)
      entries up.0 each.1))
      (lead e) each.0)

module _ (k : KeyShape) (backward : Bool) (start stop : Row) (rows entries : List Row) (shaped : IsShaped Table rows) (sorted : IsSortedTree k.order entries) (whole : IsIndexOf k.columns rows entries) where
  abbrev lead : Row → List Row
  lead = resolved rows (length k.columns)

  abbrev walked : List Row
  walked = flat_map lead (range k.order backward start stop entries)

  pub walked_rows : IsPermutation (filter (λ r. is_within k.order backward start stop (entry_of k.columns r)) rows) walked
  walked_rows =
      let within : Row → Bool = is_within k.order backward start stop in
      let kept = filter (λ r. within (entry_of k.columns r)) rows in
      let back : flat_map lead (filter within (map (entry_of k.columns) rows)) ≡ kept =
      ap (flat_map lead) (filter-map within (entry_of k.columns) rows) ∙ flat_map-map lead (entry_of k.columns) kept
      ∙ flat_map_same (λ r. lead (entry_of k.columns r)) kept (all-filter (λ r. lead (entry_of k.columns r) ≡ r ∷ []) (λ r. within (entry_of k.columns r)) rows (resolves k.columns rows shaped)) in
      subst (λ xs. IsPermutation xs walked) back
      (IsPermutation-trans _ _ _ (IsPermutation-flat_map lead _ _ (IsPermutation-filter within _ _ whole)) (IsPermutation-flat_map lead _ _ (range_same k.order backward start stop entries sorted)))

  abbrev Leads : Row → Type 0
  Leads e = AllByRecursion (λ r. e ≡ entry_of k.columns r) (lead e)

  leads_back : AllByRecursion Leads entries
  leads_back =
      all-permutation Leads _ entries whole (all-map Leads (entry_of k.columns) rows
      (all_weaker (λ r. lead (entry_of k.columns r) ≡ r ∷ []) (λ r. Leads (entry_of k.columns r))
      (λ r found. subst (AllByRecursion (λ x. entry_of k.columns r ≡ entry_of k.columns x)) (sym found) (refl, tt)) rows (resolves k.columns rows shaped)))

  pub walked_in_order : IsAscending (λ a b. Precedes k.order backward (entry_of k.columns a) (entry_of k.columns b)) walked
  walked_in_order =
      leads_in_order k.order backward k.columns lead (range k.order backward start stop entries) (range_all k.order backward start stop Leads entries sorted leads_back)
      (range_in_order k.order backward start stop entries sorted)

by_entries : (k : KeyShape) → IsTotalOrder (walk_cmp k Forward)
by_entries k = on_total (entry_of k.columns) (entry_cmp_total k.order)

by_entries_back : (k : KeyShape) → IsTotalOrder (walk_cmp k Backward)
by_entries_back k = back_total (on_total (entry_of k.columns) (entry_cmp_total k.order))

walk_order : (k : KeyShape) (direction : Direction) (rows : List Row) → IsAscending (λ a b. Precedes k.order (is_backward direction) (entry_of k.columns a) (entry_of k.columns b)) rows → IsSorted (walk_cmp k direction) rows
walk_order k Forward rows up = sorted_from_ascending (walk_cmp k Forward) (by_entries k) rows up
walk_order k Backward rows up = sorted_from_ascending (walk_cmp k Backward) (by_entries_back k) rows up

pub reads_range : {R : Type 0} (cells : R → Row) (k : KeyShape) (direction : Direction) (start stop : Row) (most : ℕ) (v : View) (read : List (ℤ × R)) → IsOrdered v.shape v.trees → v.is_broken ≡ false → Serves k v
    → AreReadUpTo cells most (rows_in_range k direction start stop v.trees) read → ReadsRange cells k direction start stop most (v.trees k.table) read
reads_range cells k direction start stop most v read ordered sound served are =
    let rows = v.trees k.table in
    let entries = v.trees k.tree in
    let shaped : IsShaped Table rows = subst (λ s. IsShaped s rows) served.table (ordered k.table) in
    let sorted : IsSortedTree k.order entries = sorted_shape (Ordered k.order) entries (subst (λ s. IsShaped s entries) served.shaped (ordered k.tree)) in
    let whole = served.whole sound in
    record {
      ordered = rows_in_range k direction start stop v.trees;
      all = walked_rows k (is_backward direction) start stop rows entries shaped sorted whole;
      order = walk_order k direction _ (walked_in_order k (is_backward direction) start stop rows entries shaped sorted whole);
      read_is = are;
    }

pub range_if_ok : {A E R : Type 0} (items : A → List (ℤ × R)) (cells : R → Row) (k : KeyShape) (direction : Direction) (start stop : Row) (most : ℕ) (v : View) (Clean : Type 0) (r : Result A E) → (v.is_broken ≡ false → IsOrdered v.shape v.trees) → Serves k v → Clean → OnOk r (v.is_broken ≡ false)
    → IfOk r (λ read. Clean → AreReadUpTo cells most (rows_in_range k direction start stop v.trees) (items read)) → IfOk r (λ read. ReadsRange cells k direction start stop most (v.trees k.table) (items read))
range_if_ok items cells k direction start stop most v Clean (Err e) ordered served clean sound are = tt
range_if_ok items cells k direction start stop most v Clean (Ok read) ordered served clean sound are =
    reads_range cells k direction start stop most v (items read) (ordered sound) sound served (are clean)

-- where fewer were read than were asked for, all were
pub reads_all : {R : Type 0} (cells : R → Row) (k : KeyShape) (direction : Direction) (start stop : Row) (most : ℕ) (rows : List Row) (read : List (ℤ × R)) → length read < most → ReadsRange cells k direction start stop most rows read
    → ReadsAll cells k direction start stop rows read
reads_all cells k direction start stop most rows read few it =
    let count : length read ≡ length (take most it.ordered) = sym (length-map read (row_of cells)) ∙ ap length it.read_is in
    let whole : take most it.ordered ≡ it.ordered = all_taken most it.ordered (omega (arith, count)) in
    let is = it.read_is ∙ whole in
    record {
      all = subst (IsPermutation (filter (is_in_range k direction start stop) rows)) (sym is) it.all;
      order = subst (IsSorted (walk_cmp k direction)) (sym is) it.order;
    }
  where
    all_taken : (n : ℕ) (xs : List Row) → length (take n xs) < n → take n xs ≡ xs
    all_taken n xs few = take_all n xs (omega (arith, length-take n xs))
