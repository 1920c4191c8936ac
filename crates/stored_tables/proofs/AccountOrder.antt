-- Rows of an account's entries that are read in order are the machine's, one by one.
use Rattle.std.proofs.Common.{◌≡◌, ℕ, zero, suc, ◌+◌, ◌-◌, ◌<◌, ◌≤◌, ◌^◌, ℤ, pos, Bool, true, false, cond, ltb, List, [], ◌∷◌, ◌++◌, map, length, get_or, reverse, refl, sym, ap, subst, ◌∙◌, arith, inl, inr, IsPermutation}
use Rattle.std.specs.List.{AllByRecursion}
use Rattle.std.specs.List.Sorted.{IsSortedByKey}
use Rattle.std.specs.Ordering.{nat_cmp, int_cmp, is_lt}
use Rattle.std.proofs.lemmas.Bool.{cases_Bool, ltb-true, ltb-false}
use Rattle.std.proofs.lemmas.List.Elements.{All-from_recursion}
use Rattle.records.specs.Reads.{Entry}
use Rattle.rows.specs.Prescribed.{history_row}
use Rattle.rows.specs.Tables.{IsAscendingBy}
use Rattle.rows.specs.Widths.{IsStorableHistory, IsStorableTransfer}
use Rattle.sqlite_value.specs.declared.value.Value.{Value}
use Rattle.sqlite_value.specs.declared.value.Value.TheVariants.{Int, Blob}
use Rattle.sqlite_value.specs.Order.{Row, column, value_cmp}
use Rattle.sqlite_value.proofs.OrderLemmas.{value_cmp-Int}
use Rattle.sqlite_trees.specs.Tree.{IsAscending}
use Rattle.sqlite_trees.proofs.ListLemmas.{all_of, all-map, all-get_or, all-permutation}
use Rattle.ledger_sql.specs.declared.entry_cells.EntryCells.{EntryCells}
use Rattle.ledger_sql.specs.Entries.{entry_values, AreOldestFirst, AreNewestFirst}
use Rattle.stored_tables.specs.MachineOf.{whole}
use Rattle.stored_tables.specs.Entries.{entry_cells, AreCellsOf}
use Rattle.stored_tables.specs.Handing.{AreFirst, AreAll}

-- ---- cells, read back from their values

abbrev bytes_in : Value → List ℕ
bytes_in (Blob bytes) = bytes
bytes_in _ = []

abbrev number_in : Value → ℤ
number_in (Int n) = n
number_in _ = pos 0

abbrev cells_in : Row → EntryCells
cells_in row = record {
  history = record {
    account = bytes_in (column row 0);
    timestamp = number_in (column row 1);
    dp = bytes_in (column row 2);
    dd = bytes_in (column row 3);
    cp = bytes_in (column row 4);
    cc = bytes_in (column row 5);
  };
  transfer = record {
    id = bytes_in (column row 6);
    debit = bytes_in (column row 7);
    credit = bytes_in (column row 8);
    amount = bytes_in (column row 9);
    pending_id = bytes_in (column row 10);
    user_data_128 = bytes_in (column row 11);
    user_data_64 = bytes_in (column row 12);
    user_data_32 = number_in (column row 13);
    timeout = number_in (column row 14);
    ledger = number_in (column row 15);
    code = number_in (column row 16);
    flags = number_in (column row 17);
    timestamp = number_in (column row 18);
    at_clock = number_in (column row 19);
  };
}

back : (cells : EntryCells) → cells_in (entry_values cells) ≡ cells
back cells = refl

abbrev head_row : List Row → Row
head_row [] = []
head_row (row ∷ rows) = row

abbrev tail_rows : List Row → List Row
tail_rows [] = []
tail_rows (row ∷ rows) = rows

-- ---- rows in order

abbrev pub rows_of : ℕ → List Entry → List Row
rows_of account es = map (λ e. entry_values (entry_cells account e)) es

abbrev time_in : Row → ℕ
time_in row = whole (column row 1)

abbrev HasTime : Row → Type 0
HasTime row = column row 1 ≡ Int (pos (time_in row))

pub is_lt_int : (a b : ℕ) → is_lt (int_cmp (pos a) (pos b)) ≡ false → b ≤ a
is_lt_int a b e = elim (cases_Bool (ltb a b)) [
  | inl below ↦ absurd (let h = rw below at e in cc)
  | inr above ↦ ltb-false a b above
]

pub not_below : (a b : ℕ) → b ≤ a → is_lt (nat_cmp a b) ≡ false
not_below a b le = elim (cases_Bool (ltb a b)) [
  | inl below ↦ absurd (let lt = ltb-true a b below in omega arith)
  | inr above ↦ rw above (elim (Rattle.std.proofs.Common.eqb a b) as (λ e. is_lt (cond e Rattle.std.specs.declared.cmp.Ordering.TheVariants.Equal Rattle.std.specs.declared.cmp.Ordering.TheVariants.Greater) ≡ false) [ true ↦ refl | false ↦ refl ])
]

in_values : (v w : Value) → v ≡ Int (pos (whole v)) → w ≡ Int (pos (whole w)) → is_lt (value_cmp v w) ≡ false → whole w ≤ whole v
in_values v w is_v is_w e =
    is_lt_int (whole v) (whole w)
    (sym (ap is_lt (ap (λ x. value_cmp x w) is_v ∙ ap (λ x. value_cmp (Int (pos (whole v))) x) is_w ∙ value_cmp-Int (pos (whole v)) (pos (whole w)))) ∙ e)

have_times : (account : ℕ) (es : List Entry) (ys : List Row) → IsPermutation (rows_of account es) ys → AllByRecursion HasTime ys
have_times account es ys same =
    all-permutation HasTime (rows_of account es) ys same
    (all-map HasTime (λ e. entry_values (entry_cells account e)) es (all_of (λ e. HasTime (entry_values (entry_cells account e))) (λ e. refl) es))

abbrev pub ReadInOrder : Type 0
ReadInOrder = (key : Row → ℕ) (xs ys : List Row) → IsAscendingBy key xs → IsPermutation xs ys → IsSortedByKey key nat_cmp ys → xs ≡ ys

ascend : (account : ℕ) (rank : ℕ → ℕ) (es : List Entry) → IsAscending (λ d e. rank d.transfer.timestamp < rank e.transfer.timestamp) es → IsAscendingBy (λ row. rank (time_in row)) (rows_of account es)
ascend account rank [] up = tt
ascend account rank (e ∷ es) up =
    let least = rank e.transfer.timestamp in (
      All-from_recursion (λ row. least < rank (time_in row)) (rows_of account es)
          (all-map (λ row. least < rank (time_in row)) (λ e. entry_values (entry_cells account e)) es up.0),
      ascend account rank es up.1,
    )

-- oldest first
pub oldest_rows :
    ReadInOrder → (account : ℕ) (es : List Entry) (ys : List Row) →
    IsAscending (λ d e. d.transfer.timestamp < e.transfer.timestamp) es →
    IsPermutation (rows_of account es) ys → AreOldestFirst ys → rows_of account es ≡ ys
oldest_rows once account es ys up same order =
    let times = have_times account es ys same in
    once time_in (rows_of account es) ys (ascend account (λ n. n) es up) same
    (λ k d low within.
    not_below (time_in (get_or ys (k + 1) d)) (time_in (get_or ys k d))
    (in_values (column (get_or ys (k + 1) d) 1) (column (get_or ys k d) 1)
    (all-get_or HasTime ys (k + 1) d times within) (all-get_or HasTime ys k d times (omega arith)) (order k d low within)))

-- newest first
pub newest_rows :
    ReadInOrder → (account : ℕ) (es : List Entry) (ys : List Row) →
    IsAscending (λ d e. 2 ^ 63 - d.transfer.timestamp < 2 ^ 63 - e.transfer.timestamp) es →
    IsPermutation (rows_of account es) ys → AreNewestFirst ys → rows_of account es ≡ ys
newest_rows once account es ys up same order =
    let times = have_times account es ys same in
    let rank : ℕ → ℕ = λ n. 2 ^ 63 - n in
    once (λ row. rank (time_in row)) (rows_of account es) ys (ascend account rank es up) same
    (λ k d low within.
    let le = in_values (column (get_or ys k d) 1) (column (get_or ys (k + 1) d) 1)
    (all-get_or HasTime ys k d times (omega arith)) (all-get_or HasTime ys (k + 1) d times within) (order k d low within) in
    not_below (rank (time_in (get_or ys (k + 1) d))) (rank (time_in (get_or ys k d))) (omega arith))

-- ---- one by one

-- a file can hold an account's entry
pub record IsStorableEntry (account : ℕ) (entry : Entry) : Type 0 where
  pub history : IsStorableHistory (history_row account entry)
  pub transfer : IsStorableTransfer entry.transfer

of_this : (account : ℕ) (e : Entry) (cells : EntryCells) → IsStorableEntry account e → entry_values (entry_cells account e) ≡ entry_values cells → AreCellsOf account e cells
of_this account e cells fits is = record { history = fits.history; transfer = fits.transfer; are = sym (ap cells_in is) }

pub are_first : (account : ℕ) (es : List Entry) (cells : List EntryCells) (rest : List Row) → AllByRecursion (IsStorableEntry account) es → rows_of account es ≡ map entry_values cells ++ rest → AreFirst account es cells
are_first account es [] rest fits is = tt
are_first account [] (c ∷ cells) rest fits is = cc
are_first account (e ∷ es) (c ∷ cells) rest fits is = (of_this account e c fits.0 (ap head_row is), are_first account es cells rest fits.1 (ap tail_rows is))

pub are_all : (account : ℕ) (es : List Entry) (cells : List EntryCells) → AllByRecursion (IsStorableEntry account) es → rows_of account es ≡ map entry_values cells → AreAll account es cells
are_all account [] [] fits is = tt
are_all account [] (c ∷ cells) fits is = cc
are_all account (e ∷ es) [] fits is = cc
are_all account (e ∷ es) (c ∷ cells) fits is = (of_this account e c fits.0 (ap head_row is), are_all account es cells fits.1 (ap tail_rows is))
