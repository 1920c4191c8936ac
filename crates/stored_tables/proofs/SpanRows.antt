-- A tenant's records in a span of time, as they are read, are the machine's.
use Rattle.std.proofs.Common.{◌≡◌, ℕ, zero, suc, ◌+◌, ◌-◌, ◌<◌, ◌≤◌, ◌^◌, ℤ, pos, Bool, false, ◌&&◌, leb, List, [], ◌∷◌, map, filter, take, reverse, length, get_or, refl, sym, ap, subst, ◌∙◌, arith, inl, inr, IsPermutation}
use Rattle.std.specs.Prelude.{All, min}
use Rattle.std.specs.Cmp.{both_ways as both_true}
use Rattle.std.specs.List.{AllByRecursion}
use Rattle.std.specs.List.Sorted.{IsSorted}
use Rattle.std.specs.declared.cmp.Ordering.{Ordering}
use Rattle.std.specs.Ordering.{nat_cmp, is_lt}
use Rattle.std.proofs.lemmas.Bool.{cases_Bool, le-leb, leb-true}
use Rattle.std.proofs.lemmas.List.{take-map, get_or-map, length-map}
use Rattle.std.proofs.lemmas.List.Elements.{All-from_recursion, recursion_from_All}
use Rattle.std.proofs.lemmas.List.Sorted.{IsPermutation-trans, IsPermutation-sym, IsPermutation-map, IsPermutation-reverse}
use Rattle.records.specs.declared.account.Account.{Account}
use Rattle.records.specs.declared.transfer.Transfer.{Transfer}
use Rattle.records.specs.declared.filter.Order.{Order}
use Rattle.records.specs.declared.filter.Order.TheVariants.{Oldest, Newest}
use Rattle.records.specs.declared.query.Span.{Span}
use Rattle.records.specs.Machine.{Machine}
use Rattle.records.specs.Queries.{is_within, within}
use Rattle.records.specs.Reads.{in_order}
use Rattle.rows.specs.Cells.{account_cells, transfer_cells}
use Rattle.rows.specs.Prescribed.{rows_for}
use Rattle.rows.specs.Tables.{IsAscendingBy}
use Rattle.rows.specs.Widths.{AreStorable, IsStorableAccount, IsStorableTransfer}
use Rattle.sqlite_value.specs.declared.value.Value.{Value}
use Rattle.sqlite_value.specs.declared.value.Value.TheVariants.{Int}
use Rattle.sqlite_value.specs.Order.{Row, column, value_cmp}
use Rattle.sqlite_value.proofs.OrderLemmas.{value_cmp-Int}
use Rattle.sqlite_trees.specs.Tree.{Trees, IsAscending}
use Rattle.sqlite_trees.proofs.ListLemmas.{all_weaker, all-filter, all-map, all-get_or, all-permutation, filter-map, filter_same, filter_none, IsPermutation-filter, ascending-filter, ascending_weaker}
use Rattle.ledger_sql.specs.Entries.{ReadsUpTo}
use Rattle.ledger_sql.specs.Spans.{rows_between, accounts_between, transfers_between, AscendAt, DescendAt}
use Rattle.ledger_sql.specs.TableRows.{is_from, is_until}
use Rattle.ledger_sql.specs.Values.{account_values, transfer_values}
use Rattle.stored_tables.specs.Bounds.{max_time}
use Rattle.stored_tables.specs.Holds.{HasRows, HoldsMachine}
use Rattle.stored_tables.specs.MachineOf.{account_of, transfer_of}
use Rattle.stored_tables.proofs.AccountEntries.{bounded, turned}
use Rattle.stored_tables.proofs.AccountOrder.{is_lt_int, not_below}
use Rattle.stored_tables.proofs.MachineBack.{ReadInOrder, map_back, account_back, transfer_back}
use Rattle.stored_tables.proofs.BoundTimes.{from_bound, until_bound, behind_from, behind_until}

-- ---- lists in order

ascends : {A : Type 0} (key : A → ℕ) (xs : List A) → IsAscendingBy key xs → IsAscending (λ a b. key a < key b) xs
ascends key [] up = tt
ascends key (x ∷ xs) up = (recursion_from_All (λ y. key x < key y) xs up.0, ascends key xs up.1)

ascends_by : {A : Type 0} (key : A → ℕ) (xs : List A) → IsAscending (λ a b. key a < key b) xs → IsAscendingBy key xs
ascends_by key [] up = tt
ascends_by key (x ∷ xs) up = (All-from_recursion (λ y. key x < key y) xs up.0, ascends_by key xs up.1)

-- what is in order by a function of it is mapped to what is in order
sorted_map : {X Y : Type 0} (cmp : Y → Y → Ordering) (f : X → Y) (xs : List X) → IsSorted (λ a b. cmp (f a) (f b)) xs → IsSorted cmp (map f xs)
sorted_map cmp f [] sorted k d low high = absurd (omega arith)
sorted_map cmp f (x ∷ xs) sorted k d low high =
    let within : k + 1 < length (x ∷ xs) = rw length-map at high in
    rw (get_or-map f (x ∷ xs) (k + 1) x d within, get_or-map f (x ∷ xs) k x d (omega arith)) (sorted k x low within)

-- ---- times

from_is : (bound time : ℕ) → is_from (pos bound) (Int (pos time)) ≡ leb bound time
from_is bound time = both_true _ _ (λ is. le-leb bound time (behind_from bound time is)) (λ is. from_bound bound time (leb-true bound time is))

until_is : (bound time : ℕ) → is_until (pos bound) (Int (pos time)) ≡ leb time bound
until_is bound time = both_true _ _ (λ is. le-leb time bound (behind_until bound time is)) (λ is. until_bound bound time (leb-true time bound is))

-- a bound beyond what a file can hold is beyond all timestamps
clamped : (bound time : ℕ) → time < 2 ^ 63 → leb time (min bound max_time) ≡ leb time bound
clamped bound time fits =
    both_true _ _
    (λ is. let le = leb-true time (min bound max_time) is in le-leb time bound (omega arith))
    (λ is. let le = leb-true time bound is in le-leb time (min bound max_time) (omega arith))

in_times : (s t : ℕ) (v w : Value) → v ≡ Int (pos s) → w ≡ Int (pos t) → is_lt (value_cmp v w) ≡ false → t ≤ s
in_times s t v w is_v is_w e = is_lt_int s t (sym (ap is_lt (ap (λ x. value_cmp x w) is_v ∙ ap (λ x. value_cmp (Int (pos s)) x) is_w ∙ value_cmp-Int (pos s) (pos t))) ∙ e)

none_of : {A : Type 0} (most : ℕ) (order : Order) → take most (in_order {A = A} order []) ≡ []
none_of zero Oldest = refl
none_of (suc most) Oldest = refl
none_of zero Newest = refl
none_of (suc most) Newest = refl

-- ---- records of any kind

-- what was read of the records of a span is what there is in it
pub record ReadsSpan {R : Type 0} (values : R → Row) (place : ℕ) (fits : R → Type 0) (time : R → ℕ) (xs : List R) (rows : List Row) (span : Span) : Type 0 where
  pub oldest : span.order ≡ Oldest → (read : List R) → All fits read → ReadsUpTo values span.most rows (AscendAt place) read → read ≡ within time span xs
  pub newest : span.order ≡ Newest → (read : List R) → All fits read → ReadsUpTo values span.most rows (DescendAt place) read → read ≡ within time span xs
  pub none : max_time < span.first → [] ≡ within time span xs

module _ {R : Type 0} (values : R → Row) (back : Row → R) (time : R → ℕ) (place : ℕ) (fits : R → Type 0) (is_back : (x : R) → fits x → back (values x) ≡ x)
    (has_time : (x : R) → column (values x) place ≡ Int (pos (time x))) (narrow : (x : R) → fits x → time x < 2 ^ 63) (once : ReadInOrder R) (xs : List R) (all : AllByRecursion fits xs) (up : IsAscendingBy time xs)
    (stored : List Row) (held : HasRows values xs stored) (span : Span) where
  abbrev here : R → Bool
  here x = is_within span (time x)

  -- the records in the span, and their rows
  abbrev those : List R
  those = filter here xs

  abbrev rows : List Row
  rows = rows_between place (pos span.first) (pos (min span.last max_time)) stored

  abbrev test : Row → Bool
  test row = is_from (pos span.first) (column row place) && is_until (pos (min span.last max_time)) (column row place)

  same_test : (x : R) → fits x → test (values x) ≡ here x
  same_test x fit =
      ap (λ v. is_from (pos span.first) v && is_until (pos (min span.last max_time)) v) (has_time x)
      ∙ (λ i. from_is span.first (time x) i && until_is (min span.last max_time) (time x) i)
      ∙ ap (λ b. leb span.first (time x) && b) (clamped span.last (time x) (narrow x fit))

  there : IsPermutation (map values those) rows
  there =
      subst (λ front. IsPermutation front rows)
      (filter-map test values xs ∙ ap (map values) (filter_same (λ x. test (values x)) here xs (all_weaker fits (λ x. test (values x) ≡ here x) same_test xs all)))
      (IsPermutation-filter test (map values xs) stored held)

  those_fit : AllByRecursion fits those
  those_fit = all-filter fits here xs all

  those_up : IsAscending (λ a b. (time a < time b) × (time b < 2 ^ 63)) those
  those_up =
      bounded (λ a b. time a < time b) (λ b. time b < 2 ^ 63) those
      (ascending-filter (λ a b. time a < time b) here xs (ascends time xs up)) (all_weaker fits (λ b. time b < 2 ^ 63) narrow those those_fit)

  abbrev HasTime : Row → Type 0
  HasTime row = column row place ≡ Int (pos (time (back row)))

  module _ (ys : List Row) (same : IsPermutation rows ys) where
    moved : IsPermutation (map values those) ys
    moved = IsPermutation-trans (map values those) rows ys there same

    times : AllByRecursion HasTime ys
    times =
        all-permutation HasTime (map values those) ys moved
        (all-map HasTime values those (all_weaker fits (λ x. HasTime (values x)) (λ x fit. has_time x ∙ ap (λ y. Int (pos (time y))) (sym (is_back x fit))) those those_fit))

    moved_back : IsPermutation those (map back ys)
    moved_back =
        subst (λ front. IsPermutation front (map back ys)) (map_back values back those (all_weaker fits (λ x. back (values x) ≡ x) is_back those those_fit))
        (IsPermutation-map back (map values those) ys moved)

    oldest : AscendAt place ys → those ≡ map back ys
    oldest order =
        once time those (map back ys)
        (ascends_by time those (ascending_weaker (λ a b. (time a < time b) × (time b < 2 ^ 63)) (λ a b. time a < time b) (λ a b h. h.0) those those_up)) moved_back
        (sorted_map (λ a b. nat_cmp (time a) (time b)) back ys
        (λ k d low within.
        not_below (time (back (get_or ys (k + 1) d))) (time (back (get_or ys k d)))
        (in_times (time (back (get_or ys (k + 1) d))) (time (back (get_or ys k d))) (column (get_or ys (k + 1) d) place) (column (get_or ys k d) place)
        (all-get_or HasTime ys (k + 1) d times within) (all-get_or HasTime ys k d times (omega arith)) (order k d low within))))

    abbrev rank : R → ℕ
    rank x = 2 ^ 63 - time x

    newest : DescendAt place ys → reverse those ≡ map back ys
    newest order =
        once rank (reverse those) (map back ys)
        (ascends_by rank (reverse those)
        (turned (λ a b. rank a < rank b) those (ascending_weaker (λ a b. (time a < time b) × (time b < 2 ^ 63)) (λ a b. rank b < rank a) (λ a b h. omega arith) those those_up)))
        (IsPermutation-trans (reverse those) those (map back ys) (IsPermutation-sym those (reverse those) (IsPermutation-reverse those)) moved_back)
        (sorted_map (λ a b. nat_cmp (rank a) (rank b)) back ys
        (λ k d low within.
        let le = in_times (time (back (get_or ys k d))) (time (back (get_or ys (k + 1) d))) (column (get_or ys k d) place) (column (get_or ys (k + 1) d) place)
        (all-get_or HasTime ys k d times (omega arith)) (all-get_or HasTime ys (k + 1) d times within) (order k d low within) in
        not_below (rank (back (get_or ys (k + 1) d))) (rank (back (get_or ys k d))) (omega arith)))

  -- what was read, back from its values
  read_back : (InOrder : List Row → Type 0) (read : List R) → All fits read → (it : ReadsUpTo values span.most rows InOrder read) → read ≡ take span.most (map back it.ordered)
  read_back InOrder read fit it =
      sym (map_back values back read (all_weaker fits (λ x. back (values x) ≡ x) is_back read (recursion_from_All fits read fit)))
      ∙ ap (map back) it.read_is
      ∙ sym (take-map back span.most it.ordered)

  oldest_read : span.order ≡ Oldest → (read : List R) → All fits read → ReadsUpTo values span.most rows (AscendAt place) read → read ≡ within time span xs
  oldest_read is read fit it =
      read_back (AscendAt place) read fit it ∙ ap (take span.most) (sym (oldest it.ordered it.all it.order)) ∙ ap (λ order. take span.most (in_order order those)) (sym is)

  newest_read : span.order ≡ Newest → (read : List R) → All fits read → ReadsUpTo values span.most rows (DescendAt place) read → read ≡ within time span xs
  newest_read is read fit it =
      read_back (DescendAt place) read fit it ∙ ap (take span.most) (sym (newest it.ordered it.all it.order)) ∙ ap (λ order. take span.most (in_order order those)) (sym is)

  -- a span that begins beyond all timestamps has none
  not_here : max_time < span.first → (x : R) → fits x → here x ≡ false
  not_here late x fit = elim (cases_Bool (leb span.first (time x))) [
    | inl from ↦ absurd (let le = leb-true span.first (time x) from in let lt = narrow x fit in omega arith)
    | inr before ↦ ap (λ b. b && leb (time x) span.last) before
  ]

  none_read : max_time < span.first → [] ≡ within time span xs
  none_read late =
      sym (none_of span.most span.order)
      ∙ ap (λ found. take span.most (in_order span.order found)) (sym (filter_none here xs (all_weaker fits (λ x. here x ≡ false) (not_here late) xs all)))

  -- what a read of the span gives, in either order or where it begins beyond all timestamps
  pub span_reads : ReadsSpan values place fits time xs rows span
  span_reads = record { oldest = oldest_read; newest = newest_read; none = none_read }

-- ---- a tenant's accounts and transfers

module _ (tenant : ℤ) (m : Machine) (trees : Trees) (held : HoldsMachine tenant m trees) (fit : AreStorable (rows_for 3 m)) (span : Span) where
  pub accounts_read : ReadInOrder Account → IsAscendingBy (λ a. a.timestamp) (rows_for 3 m).accounts → ReadsSpan (λ a. account_values (account_cells a)) 7 IsStorableAccount (λ a. a.timestamp) m.accounts (accounts_between tenant (pos span.first) (pos (min span.last max_time)) trees) span
  unfolding rows_for
  accounts_read once up =
      span_reads (λ a. account_values (account_cells a)) account_of (λ a. a.timestamp) 7 IsStorableAccount account_back (λ a. refl) (λ a h. h.timestamp) once m.accounts (recursion_from_All IsStorableAccount m.accounts fit.accounts) up _ held.rows.accounts span

  pub transfers_read : ReadInOrder Transfer → IsAscendingBy (λ t. t.timestamp) (rows_for 3 m).transfers → ReadsSpan (λ t. transfer_values (transfer_cells t)) 12 IsStorableTransfer (λ t. t.timestamp) m.transfers (transfers_between tenant (pos span.first) (pos (min span.last max_time)) trees) span
  unfolding rows_for
  transfers_read once up =
      span_reads (λ t. transfer_values (transfer_cells t)) transfer_of (λ t. t.timestamp) 12 IsStorableTransfer transfer_back (λ t. refl) (λ t h. h.timestamp) once m.transfers (recursion_from_All IsStorableTransfer m.transfers fit.transfers) up _ held.rows.transfers span
