-- A walk along an account's entries: where it stands between two pieces, and what it has handed out.
use Rattle.std.proofs.Common.{◌≡◌, ◌⊎◌, ℕ, ◌≤◌, ℤ, false, List, [], ◌∷◌, ◌++◌, length, map, filter, take, refl, sym, ap, subst, ◌∙◌, arith, inl, inr, append_assoc, Ordering, is_gt, IsPermutation, IsSorted}
use Rattle.std.specs.Cmp.{IsTotalOrder}
use Rattle.std.specs.List.{AllByRecursion, flat_map}
use Rattle.std.proofs.lemmas.Cmp.{back_total, on_total, tied_itself}
use Rattle.std.proofs.lemmas.List.{append-nil, length-map, map-append, take_all, take_at}
use Rattle.std.proofs.lemmas.List.Sorted.{IsPermutation-append_right, IsPermutation-refl, IsPermutation-sym, IsPermutation-trans}
use Rattle.sqlite_value.specs.Order.{Row, column, value_cmp}
use Rattle.sqlite_value.proofs.OrderLemmas.{value_cmp_total}
use Rattle.sqlite_trees.specs.declared.store.Direction.{Direction}
use Rattle.sqlite_trees.specs.declared.store.Direction.TheVariants.{Forward, Backward}
use Rattle.sqlite_trees.specs.Tree.{IsAscending, Trees}
use Rattle.sqlite_trees.proofs.ListLemmas.{all_weaker, all-permutation, ascending-append, IsPermutation-flat_map}
use Rattle.sqlite_exec.proofs.PartitionLemmas.{ascending_from_sorted, sorted_from_ascending}
use Rattle.keyed_trees.specs.Rows.{is_in_range, walk_cmp}
use Rattle.ledger_layout.specs.Keys.{by_entry}
use Rattle.ledger_sql.specs.declared.entry_cells.EntryCells.{EntryCells}
use Rattle.ledger_sql.specs.Entries.{entries_when, entry_values, ReadsFirst, ReadsUpTo}
use Rattle.ledger_sql.specs.Schema.{history_tree}
use Rattle.ledger_entries.specs.Handing.{AreJoined, joined}
use Rattle.ledger_entries.specs.Walks.{AreInOrder, in_time}
use Rattle.ledger_entries.proofs.CutLemmas.{NotAfter, passing}
use Rattle.ledger_entries.proofs.EntryLemmas.{entries_are, joined_times}
use Rattle.ledger_entries.proofs.JoinLemmas.{joined_each, joined_in_order, joined_part, joined_same, joined_then}
use Rattle.ledger_entries.proofs.KeyOrder.{ascending_by_times, IsOfAccount, of_account, the_start, the_stop, time_cmp, walk_total}
use Rattle.ledger_entries.proofs.SortLemmas.{sorted}

ascending_split : (R : Row → Row → Type 0) (xs ys : List Row) → IsAscending R (xs ++ ys) → IsAscending R xs × AllByRecursion (λ x. AllByRecursion (R x) ys) xs
ascending_split R [] ys up = (tt, tt)
ascending_split R (x ∷ xs) ys up =
    let more = ascending_split R xs ys up.1 in
    let parts = all_split (R x) xs ys up.0 in
    ((parts.0, more.0), (parts.1, more.1))
  where
    all_split : (P : Row → Type 0) (xs ys : List Row) → AllByRecursion P (xs ++ ys) → AllByRecursion P xs × AllByRecursion P ys
    all_split P [] ys all = (tt, all)
    all_split P (x ∷ xs) ys all = let more = all_split P xs ys all.1 in ((all.0, more.0), more.1)

-- how two entries compare by their times
abbrev stamp_cmp : Direction → Row → Row → Ordering
stamp_cmp Forward e f = value_cmp (column e 1) (column f 1)
stamp_cmp Backward e f = value_cmp (column f 1) (column e 1)

stamp_total : (d : Direction) → IsTotalOrder (stamp_cmp d)
stamp_total Forward = on_total (λ (e : Row). column e 1) value_cmp_total
stamp_total Backward = back_total (on_total (λ (e : Row). column e 1) value_cmp_total)

stamps_tie : (d : Direction) (a e f : Row) → column e 1 ≡ column a 3 → column f 1 ≡ column a 3 → is_gt (stamp_cmp d e f) ≡ false
stamps_tie Forward a e f p q = (λ i. is_gt (value_cmp (p i) (q i))) ∙ ap is_gt (tied_itself value_cmp_total (column a 3))
stamps_tie Backward a e f p q = (λ i. is_gt (value_cmp (q i) (p i))) ∙ ap is_gt (tied_itself value_cmp_total (column a 3))

stamps_follow : (d : Direction) (a b e f : Row) → is_gt (time_cmp d a b) ≡ false → column e 1 ≡ column a 3 → column f 1 ≡ column b 3 → is_gt (stamp_cmp d e f) ≡ false
stamps_follow Forward a b e f up p q = (λ i. is_gt (value_cmp (p i) (q i))) ∙ up
stamps_follow Backward a b e f up p q = (λ i. is_gt (value_cmp (q i) (p i))) ∙ up

in_order : (d : Direction) (es : List Row) → IsSorted (stamp_cmp d) es → AreInOrder d es
in_order Forward es up = up
in_order Backward es up = up

module _ (tenant : ℤ) (account : List ℕ) (time : ℤ) (d : Direction) (trees : Trees) where
  abbrev pub all_rows : List Row
  all_rows = filter (is_in_range by_entry d (the_start tenant account time) (the_stop tenant account)) (trees history_tree)

  abbrev pub join : Row → List Row
  join = joined tenant trees

  abbrev entries : List Row
  entries = entries_when tenant account (in_time d time) trees

  -- all rows of the walk, in its order
  pub record IsListing (rows : List Row) : Type 0 where
    pub same : IsPermutation all_rows rows
    pub up : IsAscending (NotAfter d) rows

  -- the entries of some rows have been handed out, and these are left, none of which comes before them
  pub record Stands (left : List Row) (handed : List EntryCells) : Type 0 where
    pub done : List Row
    pub joins : AreJoined join done (map entry_values handed)
    pub same : IsPermutation all_rows (done ++ left)
    pub up : IsAscending (NotAfter d) done
    pub below : AllByRecursion (λ a. AllByRecursion (NotAfter d a) left) done

  pub stands_first : (left : List Row) → left ≡ all_rows → Stands left []
  stands_first left is = record {
    done = [];
    joins = refl;
    same = subst (IsPermutation all_rows) (sym is) (IsPermutation-refl all_rows);
    up = tt;
    below = tt;
  }

  of_listing : (rows : List Row) → IsListing rows → AllByRecursion (IsOfAccount tenant account) rows
  of_listing rows it =
      all-permutation (IsOfAccount tenant account) all_rows rows it.same
      (all_weaker _ (IsOfAccount tenant account) (of_account tenant account time d) all_rows (passing (is_in_range by_entry d (the_start tenant account time) (the_stop tenant account)) (trees history_tree)))

  entries_in_order : (rows es : List Row) → IsListing rows → AreJoined join rows es → AreInOrder d es
  entries_in_order rows es it joins =
      in_order d es (sorted_from_ascending (stamp_cmp d) (stamp_total d) es
      (joined_in_order join (λ a b. is_gt (time_cmp d a b) ≡ false) (λ a e. column e 1 ≡ column a 3) (λ e f. is_gt (stamp_cmp d e f) ≡ false) (joined_times tenant trees) (stamps_tie d) (stamps_follow d)
      rows es (ascending_by_times tenant account d rows (of_listing rows it) it.up) joins))

  all_entries : (rows es : List Row) → IsListing rows → AreJoined join rows es → IsPermutation entries es
  all_entries rows es it joins =
      subst (λ xs. IsPermutation xs es) (entries_are tenant trees account time d)
      (IsPermutation-trans _ _ _ (IsPermutation-flat_map join all_rows rows it.same) (joined_same join rows es joins))

  -- these entries were handed out, and these are left, of all in order
  pub record AreFirst (handed : List EntryCells) (tail : List Row) : Type 0 where
    pub rows : List Row
    pub listing : IsListing rows
    pub joins : AreJoined join rows (map entry_values handed ++ tail)

  pub reads_first : (handed : List EntryCells) (tail : List Row) → AreFirst handed tail → ReadsFirst entries (AreInOrder d) handed
  reads_first handed tail it = record { rest = tail; all = all_entries it.rows _ it.listing it.joins; order = entries_in_order it.rows _ it.listing it.joins }

  -- the first of them up to a count, or all
  pub reads_up_to : (count : ℕ) (handed : List EntryCells) (tail : List Row) → AreFirst handed tail → length handed ≤ count → (length handed ≡ count) ⊎ (tail ≡ []) → ReadsUpTo entry_values count entries (AreInOrder d) handed
  reads_up_to count handed tail it few ends = record {
    ordered = map entry_values handed ++ tail;
    all = all_entries it.rows _ it.listing it.joins;
    order = entries_in_order it.rows _ it.listing it.joins;
    read_is = cut_off ends;
  }
    where
      cut_off : (length handed ≡ count) ⊎ (tail ≡ []) → map entry_values handed ≡ take count (map entry_values handed ++ tail)
      cut_off (inl whole) = sym (take_at (map entry_values handed) tail count (length-map handed entry_values ∙ whole))
      cut_off (inr none) =
          sym (ap (take count) (ap (λ xs. map entry_values handed ++ xs) none ∙ append-nil (map entry_values handed))
          ∙ take_all count (map entry_values handed) (omega (arith, few, length-map handed entry_values)))

  -- where a walk stands, whatever is left can be put in order
  pub first_where : (left : List Row) (handed : List EntryCells) → Stands left handed → (tail : List Row) × AreFirst handed tail
  first_where left handed it =
      let later = sorted d left in (
        flat_map join later.0,
        record {
          rows = it.done ++ later.0;
          listing = record {
            same = IsPermutation-trans _ _ _ it.same (IsPermutation-append_right it.done left later.0 later.1);
            up = ascending-append (NotAfter d) it.done later.0 it.up later.2 (all_weaker _ _ (λ a below. all-permutation (NotAfter d a) left later.0 later.1 below) it.done it.below);
          };
          joins = joined_then join it.done later.0 (map entry_values handed) (flat_map join later.0) it.joins (joined_each join later.0);
        },
      )

  -- a piece of what is left, and what of it was handed out
  module _ (left : List Row) (handed : List EntryCells) (it : Stands left handed) (rows rest : List Row) (same : IsPermutation left (rows ++ rest)) (order : IsSorted (walk_cmp by_entry d) (rows ++ rest)) where
    piece_up : IsAscending (NotAfter d) (rows ++ rest)
    piece_up = ascending_from_sorted (walk_cmp by_entry d) (walk_total d) (rows ++ rest) order

    with_piece : IsListing (it.done ++ (rows ++ rest))
    with_piece = record {
      same = IsPermutation-trans _ _ _ it.same (IsPermutation-append_right it.done left (rows ++ rest) same);
      up = ascending-append (NotAfter d) it.done (rows ++ rest) it.up piece_up (all_weaker _ _ (λ a below. all-permutation (NotAfter d a) left (rows ++ rest) same below) it.done it.below);
    }

    pub first_within : (more : List EntryCells) (tail : List Row) → AreJoined join rows (map entry_values more ++ tail) → AreFirst (handed ++ more) (tail ++ flat_map join rest)
    first_within more tail joins =
        record {
          rows = it.done ++ (rows ++ rest);
          listing = with_piece;
          joins = subst (λ xs. AreJoined join (it.done ++ (rows ++ rest)) (xs ++ (tail ++ flat_map join rest))) (sym (map-append entry_values handed more))
              (joined_part join it.done rows rest (map entry_values handed) (map entry_values more) tail it.joins joins);
        }

    -- all of it was
    pub stands_next : (next : List Row) (more : List EntryCells) → IsPermutation next rest → AreJoined join rows (map entry_values more) → Stands next (handed ++ more)
    stands_next next more left_is joins =
        let apart = ascending_split (NotAfter d) (it.done ++ rows) rest (subst (IsAscending (NotAfter d)) (sym (append_assoc it.done rows rest)) with_piece.up) in
        let back = IsPermutation-sym next rest left_is in
        record {
          done = it.done ++ rows;
          joins = subst (AreJoined join (it.done ++ rows)) (sym (map-append entry_values handed more)) (joined_then join it.done rows (map entry_values handed) (map entry_values more) it.joins joins);
          same = IsPermutation-trans _ _ _ (subst (IsPermutation all_rows) (sym (append_assoc it.done rows rest)) with_piece.same) (IsPermutation-append_right (it.done ++ rows) rest next back);
          up = apart.0;
          below = all_weaker _ _ (λ a below. all-permutation (NotAfter d a) rest next back below) (it.done ++ rows) apart.1;
        }
