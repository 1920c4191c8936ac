-- A piece of what is left of an account's history.
use Rattle.std.proofs.Common.{◌≡◌, ℕ, ◌+◌, ◌≤◌, ℤ, true, false, List, [], ◌∷◌, ◌++◌, length, map, filter, take, drop, refl, sym, ap, subst, ◌∙◌, arith, append_assoc, IsPermutation, IsSorted, true≢false}
use Rattle.std.specs.List.{AllByRecursion}
use Rattle.std.proofs.lemmas.List.{append-nil, length-map, length-take, map-append, take-append-drop, take_all}
use Rattle.sqlite_value.specs.Order.{Row}
use Rattle.sqlite_trees.specs.Tree.{IsAscending}
use Rattle.sqlite_exec.proofs.PartitionLemmas.{ascending_from_sorted}
use Rattle.keyed_trees.specs.Rows.{ReadsRange, is_in_range, row_of, walk_cmp}
use Rattle.rows.specs.declared.history_cells.HistoryCells.{HistoryCells}
use Rattle.ledger_layout.specs.Keys.{by_entry}
use Rattle.ledger_layout.specs.declared.kind.TenantRow.{TenantRow}
use Rattle.ledger_entries.specs.declared.history.Unread.{Unread}
use Rattle.ledger_entries.specs.Pieces.{EndsApart, ReadsPiece, entry_at, history_columns}
use Rattle.ledger_entries.proofs.CutLemmas.{NotAfter, all_before, cut, ends_below}
use Rattle.ledger_entries.proofs.KeyOrder.{walk_total}

abbrev row_at : ℤ × TenantRow HistoryCells → Row
row_at = row_of history_columns

module _ (old : Unread) (history : List Row) (many : ℕ) (read : List (ℤ × TenantRow HistoryCells)) (it : ReadsRange history_columns by_entry old.direction old.start old.stop many history read) where
  -- fewer rows than were asked for are all
  pub last_piece : (new : Unread) → length read + 1 ≤ many → ReadsPiece old new history (map row_at read) true
  last_piece new few =
      let count : length read ≡ length (take many it.ordered) = sym (length-map read row_at) ∙ ap length it.read_is in
      let whole : take many it.ordered ≡ it.ordered = take_all many it.ordered (omega (arith, few, count, length-take many it.ordered)) in
      let is : it.ordered ≡ map row_at read ++ [] = sym (append-nil (map row_at read) ∙ it.read_is ∙ whole) in
      record {
        rest = [];
        all = subst (IsPermutation (filter (is_in_range by_entry old.direction old.start old.stop) history)) is it.all;
        order = subst (IsSorted (walk_cmp by_entry old.direction)) is it.order;
        over = λ _. refl;
        left = λ e. absurd (true≢false e);
      }

  -- the last of the rows is where the next piece begins
  pub further_piece : (new : Unread) (first : List (ℤ × TenantRow HistoryCells)) (next : ℤ × TenantRow HistoryCells) → read ≡ first ++ next ∷ [] → EndsApart first next → new.start ≡ entry_at next → new.stop ≡ old.stop → new.direction ≡ old.direction
      → ReadsPiece old new history (map row_at first) false
  further_piece new first next parts apart start stop way =
      let d = old.direction in
      let x = row_at next in
      let after = drop many it.ordered in
      let before = map row_at first in
      let is : it.ordered ≡ before ++ x ∷ after =
      sym (take-append-drop many it.ordered) ∙ ap (λ xs. xs ++ after) (sym it.read_is ∙ ap (map row_at) parts ∙ map-append row_at first (next ∷ [])) ∙ append_assoc before (x ∷ []) after in
      let same = subst (IsPermutation (filter (is_in_range by_entry d old.start old.stop) history)) is it.all in
      let order = subst (IsSorted (walk_cmp by_entry d)) is it.order in
      let up = ascending_from_sorted (walk_cmp by_entry d) (walk_total d) (before ++ x ∷ after) order in
      let below = all_before d before x after up (ends_below d first next after up apart) in
      let rest = cut d old.start old.stop history before x after same below (beyond before x after up) in
      let left : filter (is_in_range by_entry new.direction new.start new.stop) history ≡ filter (is_in_range by_entry d (entry_at next) old.stop) history =
      (λ i. filter (is_in_range by_entry (way i) (start i) (stop i)) history) in
      record {
        rest = x ∷ after;
        all = same;
        order = order;
        over = λ e. absurd (true≢false (sym e));
        left = λ _. subst (λ xs. IsPermutation xs (x ∷ after)) (sym left) rest;
      }
    where
      beyond : (xs : List Row) (x : Row) (after : List Row) → IsAscending (NotAfter old.direction) (xs ++ x ∷ after) → AllByRecursion (NotAfter old.direction x) after
      beyond [] x after up = up.0
      beyond (y ∷ xs) x after up = beyond xs x after up.1
