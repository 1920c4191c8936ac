-- A range that starts at one of the rows of another has this row and those after it.
use Rattle.std.proofs.Common.{◌≡◌, ◌-◌, suc, ℤ, Bool, true, false, not, cond, ◌&&◌, List, [], ◌∷◌, ◌++◌, length, map, filter, Some, refl, sym, ap, subst, ◌∙◌, arith, slice_get, IsPermutation, Ordering, Less, Equal, Greater, is_lt, is_gt, true≢false}
use Rattle.std.specs.List.{AllByRecursion}
use Rattle.std.specs.Ordering.{ordering_reverse}
use Rattle.std.proofs.lemmas.Cmp.{tied_itself}
use Rattle.std.proofs.lemmas.List.Elements.{filter-append}
use Rattle.std.proofs.lemmas.Map.Lookups.{exact_signed}
use Rattle.sqlite_value.specs.Keys.{entry_cmp, plain}
use Rattle.sqlite_value.specs.Order.{Row}
use Rattle.sqlite_value.proofs.KeyLemmas.{entry_cmp_total, then_tied}
use Rattle.sqlite_value.proofs.OrderLemmas.{value_cmp-Int}
use Rattle.sqlite_trees.specs.declared.store.Direction.{Direction}
use Rattle.sqlite_trees.specs.declared.store.Direction.TheVariants.{Forward, Backward}
use Rattle.sqlite_trees.specs.Tree.{IsAscending}
use Rattle.sqlite_trees.proofs.ListLemmas.{all_of, all_weaker, all-permutation, filter_all, filter_none, filter_same, IsPermutation-filter}
use Rattle.sqlite_trees.proofs.TreeLemmas.{not_true, prefix_cmp_follows}
use Rattle.sqlite_sql.specs.Catalog.{entry_of}
use Rattle.sqlite_exec.specs.Plan.{is_past}
use Rattle.rows.specs.declared.history_cells.HistoryCells.{HistoryCells}
use Rattle.keyed_trees.specs.Rows.{is_backward, is_in_range, row_of, walk_cmp}
use Rattle.ledger_layout.specs.Keys.{by_entry}
use Rattle.ledger_layout.specs.declared.kind.TenantRow.{TenantRow}
use Rattle.ledger_layout.proofs.KeyLemmas.{filter_both}
use Rattle.ledger_entries.specs.Pieces.{EndsApart, history_columns}
use Rattle.ledger_entries.proofs.KeyOrder.{columns_compared, walk_total}

pub turned_more : (o : Ordering) → is_lt (ordering_reverse o) ≡ is_gt o
turned_more Less = refl
turned_more Equal = refl
turned_more Greater = refl

pub turned_less : (o : Ordering) → is_gt (ordering_reverse o) ≡ is_lt o
turned_less Less = refl
turned_less Equal = refl
turned_less Greater = refl

-- the rows that a filter leaves pass its test
pub passing : (p : Row → Bool) (xs : List Row) → AllByRecursion (λ x. p x ≡ true) (filter p xs)
passing p [] = tt
passing p (x ∷ xs) = at (p x) refl (passing p xs)
  where
    at : (b : Bool) → p x ≡ b → AllByRecursion (λ x. p x ≡ true) (filter p xs) → AllByRecursion (λ x. p x ≡ true) (cond b (x ∷ filter p xs) (filter p xs))
    at true is more = (is, more)
    at false is more = more

-- what is so of all of a list is so of one within
all_at : (P : Row → Type 0) (xs : List Row) (y : Row) (ys : List Row) → AllByRecursion P (xs ++ y ∷ ys) → P y
all_at P [] y ys all = all.0
all_at P (x ∷ xs) y ys all = all_at P xs y ys all.1

abbrev key_entry : Row → Row
key_entry = entry_of by_entry.columns

-- where a row's entry is the start, the rows that come before it are past
past_is : (d : Direction) (x r : Row) → is_past plain (not (is_backward d)) (key_entry x) (key_entry r) ≡ is_lt (walk_cmp by_entry d r x)
past_is Forward x r = refl
past_is Backward x r = sym (ap is_lt ((entry_cmp_total plain).antisymm (key_entry x) (key_entry r)) ∙ turned_more (entry_cmp plain (key_entry r) (key_entry x)))

no_longer : (b c : Bool) → (b ≡ true → c ≡ true) → c ≡ false → b ≡ false
no_longer b c more is = not_true b (λ e. true≢false (sym (more e) ∙ is))

-- a row that does not come before one that a start has reached is reached too
reached_later : (d : Direction) (start x r : Row) → is_past plain (not (is_backward d)) start (key_entry x) ≡ false → is_lt (walk_cmp by_entry d r x) ≡ false → is_past plain (not (is_backward d)) start (key_entry r) ≡ false
reached_later Forward start x r reached later =
    no_longer _ _ (prefix_cmp_follows plain start (key_entry x) (key_entry r) (ap is_gt ((entry_cmp_total plain).antisymm (key_entry x) (key_entry r)) ∙ turned_less (entry_cmp plain (key_entry r) (key_entry x)) ∙ later)).0 reached
reached_later Backward start x r reached later =
    no_longer _ _ (prefix_cmp_follows plain start (key_entry r) (key_entry x) (ap is_gt ((entry_cmp_total plain).antisymm (key_entry r) (key_entry x)) ∙ turned_less (entry_cmp plain (key_entry x) (key_entry r)) ∙ later)).1 reached

narrower : (s t q : Bool) → (q ≡ true → s ≡ true) → ((s && t) && q) ≡ (q && t)
narrower true true true so = refl
narrower true true false so = refl
narrower true false true so = refl
narrower true false false so = refl
narrower false t true so = absurd (true≢false (sym (so refl)))
narrower false t false so = refl

module _ (d : Direction) where
  abbrev pub NotAfter : Row → Row → Type 0
  NotAfter a b = is_gt (walk_cmp by_entry d a b) ≡ false

  pub cut : (start stop : Row) (rows before : List Row) (x : Row) (after : List Row) → IsPermutation (filter (is_in_range by_entry d start stop) rows) (before ++ x ∷ after)
      → AllByRecursion (λ p. walk_cmp by_entry d p x ≡ Less) before → AllByRecursion (NotAfter x) after → IsPermutation (filter (is_in_range by_entry d (key_entry x) stop) rows) (x ∷ after)
  cut start stop rows before x after same below above =
      let within : Row → Bool = is_in_range by_entry d start stop in
      let from : Row → Bool = λ r. not (is_past plain (not (is_backward d)) (key_entry x) (key_entry r)) in
      let reached : Row → Bool = λ r. not (is_past plain (not (is_backward d)) start (key_entry r)) in
      let not_over : Row → Bool = λ r. not (is_past plain (is_backward d) stop (key_entry r)) in
      let there = all_at (λ r. within r ≡ true) before x after (all-permutation (λ r. within r ≡ true) _ _ same (passing within rows)) in
      let here : is_past plain (not (is_backward d)) start (key_entry x) ≡ false = first_false _ _ there in
      let later : (r : Row) → from r ≡ true → reached r ≡ true =
      λ r e. ap not (reached_later d start x r here (sym (past_is d x r) ∙ none_past _ e)) in
      let narrowed : filter (is_in_range by_entry d (key_entry x) stop) rows ≡ filter from (filter within rows) =
      sym (filter_both within from rows ∙ filter_same _ _ rows (all_of _ (λ r. narrower (reached r) (not_over r) (from r) (later r)) rows)) in
      let left : filter from (before ++ x ∷ after) ≡ x ∷ after =
      filter-append from before (x ∷ after)
      ∙ ap (λ xs. xs ++ filter from (x ∷ after)) (filter_none from before (all_weaker (λ p. walk_cmp by_entry d p x ≡ Less) (λ p. from p ≡ false) (λ p less. ap not (past_is d x p ∙ ap is_lt less)) before below))
      ∙ filter_all from (x ∷ after) (
        ap not (past_is d x x ∙ ap is_lt (tied_itself (walk_total d) x)),
        all_weaker (NotAfter x) (λ u. from u ≡ true) (λ u up. ap not (past_is d x u ∙ ap is_lt ((walk_total d).antisymm u x) ∙ turned_more _ ∙ up)) after above,
      ) in
      subst (λ xs. IsPermutation xs (x ∷ after)) (sym narrowed) (subst (IsPermutation (filter from (filter within rows))) left (IsPermutation-filter from _ _ same))
    where
      first_false : (b c : Bool) → (not b && c) ≡ true → b ≡ false
      first_false true c e = absurd (true≢false (sym e))
      first_false false c e = refl

      none_past : (b : Bool) → not b ≡ true → b ≡ false
      none_past true e = absurd (true≢false (sym e))
      none_past false e = refl

  -- the last row of a list comes before this one
  abbrev EndsBelow : List Row → Row → Type 0
  EndsBelow [] x = Unit {0}
  EndsBelow (p ∷ []) x = walk_cmp by_entry d p x ≡ Less
  EndsBelow (p ∷ q ∷ ps) x = EndsBelow (q ∷ ps) x

  chain : (p q x : Row) → NotAfter p q → walk_cmp by_entry d q x ≡ Less → walk_cmp by_entry d p x ≡ Less
  chain p q x up less = at (walk_cmp by_entry d p q) refl up
    where
      at : (o : Ordering) → walk_cmp by_entry d p q ≡ o → is_gt o ≡ false → walk_cmp by_entry d p x ≡ Less
      at Less is over = (walk_total d).trans p q x is less
      at Equal is over = (walk_total d).congr p q x is ∙ less
      at Greater is over = absurd (true≢false over)

  pub all_before : (before : List Row) (x : Row) (after : List Row) → IsAscending NotAfter (before ++ x ∷ after) → EndsBelow before x → AllByRecursion (λ p. walk_cmp by_entry d p x ≡ Less) before
  all_before [] x after up below = tt
  all_before (p ∷ []) x after up below = (below, tt)
  all_before (p ∷ q ∷ ps) x after up below =
      let more = all_before (q ∷ ps) x after up.1 below in
      (chain p q x up.0.0 more.0, more)

  -- rows of other times or rowids do not tie
  untied : (a b : ℤ × TenantRow HistoryCells) → entry_cmp plain (key_entry (row_of history_columns a)) (key_entry (row_of history_columns b)) ≡ Equal → (a.0 ≡ b.0) × (a.1.cells.timestamp ≡ b.1.cells.timestamp)
  untied a b ties =
      let columns = sym (columns_compared (row_of history_columns a) (row_of history_columns b)) ∙ ties in
      let account = (then_tied _ _ columns).1 in
      let times = then_tied _ _ (then_tied _ _ account).1 in
      let ids = then_tied _ _ times.1 in
      (exact_signed a.0 b.0 (sym (value_cmp-Int a.0 b.0) ∙ ids.0), exact_signed a.1.cells.timestamp b.1.cells.timestamp (sym (value_cmp-Int a.1.cells.timestamp b.1.cells.timestamp) ∙ times.0))

  ties_are : (a b : ℤ × TenantRow HistoryCells) → walk_cmp by_entry d (row_of history_columns a) (row_of history_columns b) ≡ Equal → (a.0 ≡ b.0) × (a.1.cells.timestamp ≡ b.1.cells.timestamp)
  ties_are a b = on d
    where
      on : (d : Direction) → walk_cmp by_entry d (row_of history_columns a) (row_of history_columns b) ≡ Equal → (a.0 ≡ b.0) × (a.1.cells.timestamp ≡ b.1.cells.timestamp)
      on Forward ties = untied a b ties
      on Backward ties = let back = untied b a ties in (sym back.0, sym back.1)

  strictly : (a b : ℤ × TenantRow HistoryCells) → NotAfter (row_of history_columns a) (row_of history_columns b) → (a.0 ≡ b.0 → a.1.cells.timestamp ≡ b.1.cells.timestamp → ⊥) → walk_cmp by_entry d (row_of history_columns a) (row_of history_columns b) ≡ Less
  strictly a b up apart = at (walk_cmp by_entry d (row_of history_columns a) (row_of history_columns b)) refl up
    where
      at : (o : Ordering) → walk_cmp by_entry d (row_of history_columns a) (row_of history_columns b) ≡ o → is_gt o ≡ false → walk_cmp by_entry d (row_of history_columns a) (row_of history_columns b) ≡ Less
      at Less is over = is
      at Equal is over = let same = ties_are a b is in absurd (apart same.0 same.1)
      at Greater is over = absurd (true≢false over)

  pub ends_below : (items : List (ℤ × TenantRow HistoryCells)) (next : ℤ × TenantRow HistoryCells) (after : List Row) → IsAscending NotAfter (map (row_of history_columns) items ++ row_of history_columns next ∷ after) → EndsApart items next
      → EndsBelow (map (row_of history_columns) items) (row_of history_columns next)
  ends_below [] next after up apart = tt
  ends_below (p ∷ []) next after up apart = strictly p next up.0.0 (apart p refl)
  ends_below (p ∷ q ∷ ps) next after up apart =
      ends_below (q ∷ ps) next after up.1
      (λ last is. apart last (let n : length (p ∷ q ∷ ps) - 1 ≡ suc (length (q ∷ ps) - 1) = omega arith in subst (λ n. slice_get (p ∷ q ∷ ps) n ≡ Some last) (sym n) is))
