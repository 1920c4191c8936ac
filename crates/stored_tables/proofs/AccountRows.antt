-- An account's entries in a database are those of the machine.
use Rattle.std.proofs.Common.{◌≡◌, ℕ, ◌<◌, ◌^◌, pos, Bool, true, false, ◌&&◌, ◌||◌, eqb, cond, List, [], ◌∷◌, ◌++◌, map, filter, flat_map, refl, sym, ap, subst, ◌∙◌, arith, IsPermutation}
use Rattle.std.specs.List.{AllByRecursion}
use Rattle.std.specs.Str.{bytes_eq}
use Rattle.std.specs.Ordering.{int_eq}
use Rattle.std.specs.Cmp.{both_ways as both_true}
use Rattle.std.proofs.lemmas.Bool.Decides.{Decides-eqb, Decides-int_eq}
use Rattle.std.proofs.lemmas.Bool.{both_ways, eqb-true, eq-eqb, ne_eqb}
use Rattle.amount.specs.Column.{column_of, IsOneToOne}
use Rattle.records.specs.declared.transfer.Transfer.{Transfer}
use Rattle.records.specs.Reads.{Entry, entries_after, is_entry_of}
use Rattle.rows.specs.declared.history_row.HistoryRow.{HistoryRow}
use Rattle.rows.specs.Cells.{history_cells, transfer_cells}
use Rattle.rows.specs.Prescribed.{history_row}
use Rattle.sqlite_value.specs.declared.value.Value.{Value}
use Rattle.sqlite_value.specs.declared.value.Value.TheVariants.{Int}
use Rattle.sqlite_value.specs.Order.{Row, column}
use Rattle.sqlite_trees.specs.Tree.{IsAscending}
use Rattle.sqlite_trees.proofs.ListLemmas.{map-map, filter-map, filter_same, filter_none, all_of, all_both, all_weaker, all-filter, all_from_map, IsPermutation-filter, IsPermutation-flat_map}
use Rattle.sqlite.proofs.Callers.{one_permutation}
use Rattle.ledger_sql.specs.Entries.{entry_values, history_when, with_transfers}
use Rattle.ledger_sql.specs.TableRows.{is_blob, is_same}
use Rattle.ledger_sql.specs.Values.{history_values, transfer_values}
use Rattle.stored_tables.proofs.RowMoves.{tells_id}
use Rattle.stored_tables.specs.Entries.{entry_cells}

-- ---- the history rows of an account

abbrev pub both_rows : Entry → List HistoryRow
both_rows entry =
    history_row entry.transfer.debit_account_id entry
    ∷ history_row entry.transfer.credit_account_id entry ∷ []

abbrev pub is_timed : ℕ → (Value → Bool) → Entry → Bool
is_timed account in_time entry =
    is_entry_of account entry.transfer && in_time (Int (pos entry.transfer.timestamp))

abbrev pub is_own : ℕ → (Value → Bool) → HistoryRow → Bool
is_own account in_time row = eqb row.account account && in_time (Int (pos row.timestamp))

-- of an entry's two rows one is the account's, if the entry is
one_of_two :
    (account d c : ℕ) (entry : Entry) (rest : List HistoryRow) (on_d on_c t : Bool) →
    (on_d ≡ true → d ≡ account) → (on_c ≡ true → c ≡ account) → (on_d ≡ true → on_c ≡ false) →
    cond (on_d && t) (history_row d entry ∷ cond (on_c && t) (history_row c entry ∷ rest) rest)
    (cond (on_c && t) (history_row c entry ∷ rest) rest)
    ≡ cond ((on_d || on_c) && t) (history_row account entry ∷ rest) rest
one_of_two account d c entry rest true true t is_d is_c one = absurd (both_ways true (one refl) refl)
one_of_two account d c entry rest true false true is_d is_c one =
    ap (λ a. history_row a entry ∷ rest) (is_d refl)
one_of_two account d c entry rest true false false is_d is_c one = refl
one_of_two account d c entry rest false true true is_d is_c one =
    ap (λ a. history_row a entry ∷ rest) (is_c refl)
one_of_two account d c entry rest false true false is_d is_c one = refl
one_of_two account d c entry rest false false t is_d is_c one = refl

one_side : (account d c : ℕ) → eqb d c ≡ false → eqb d account ≡ true → eqb c account ≡ false
one_side account d c differ is =
    ne_eqb c account (λ same. both_ways (eqb d c) differ (eq-eqb d c (eqb-true d account is ∙ sym same)))

abbrev pub HasTwoAccounts : Transfer → Type 0
HasTwoAccounts t = eqb t.debit_account_id t.credit_account_id ≡ false

pub own_history :
    (account : ℕ) (in_time : Value → Bool) (es : List Entry) →
    AllByRecursion (λ e. HasTwoAccounts e.transfer) es →
    filter (is_own account in_time) (flat_map both_rows es)
    ≡ map (history_row account) (filter (is_timed account in_time) es)
own_history account in_time [] differ = refl
own_history account in_time (e ∷ es) differ =
    let d = e.transfer.debit_account_id in
    let c = e.transfer.credit_account_id in
    let t = in_time (Int (pos e.transfer.timestamp)) in
    let rest = filter (is_own account in_time) (flat_map both_rows es) in
    one_of_two account d c e rest (eqb d account) (eqb c account) t
    (eqb-true d account) (eqb-true c account) (one_side account d c differ.0)
    ∙ (λ i. cond (is_timed account in_time e) (history_row account e ∷ own_history account in_time es differ.1 i) (own_history account in_time es differ.1 i))
    ∙ sym (map_cond (history_row account) (is_timed account in_time e) e (filter (is_timed account in_time) es))
  where
    map_cond : (f : Entry → HistoryRow) (b : Bool) (x : Entry) (xs : List Entry) → map f (cond b (x ∷ xs) xs) ≡ cond b (f x ∷ map f xs) (map f xs)
    map_cond f true x xs = refl
    map_cond f false x xs = refl

-- what holds of all history rows holds of the account's
pub own_all :
    (P : HistoryRow → Type 0) (account : ℕ) (in_time : Value → Bool) (es : List Entry) →
    AllByRecursion (λ e. HasTwoAccounts e.transfer) es → AllByRecursion P (flat_map both_rows es) →
    AllByRecursion (λ e. P (history_row account e)) (filter (is_timed account in_time) es)
own_all P account in_time es differ all =
    all_from_map P (history_row account) (filter (is_timed account in_time) es)
    (subst (AllByRecursion P) (own_history account in_time es differ)
    (all-filter P (is_own account in_time) (flat_map both_rows es) all))

-- ---- the transfer of a history row

abbrev pub at_time : ℕ → Transfer → Bool
at_time time t = eqb t.timestamp time

alone_behind :
    (x : Transfer) (xs ys : List Transfer) → AllByRecursion (λ t. x.timestamp < t.timestamp) ys →
    AllByRecursion (λ t. filter (at_time t.timestamp) xs ≡ t ∷ []) ys →
    AllByRecursion (λ t. filter (at_time t.timestamp) (x ∷ xs) ≡ t ∷ []) ys
alone_behind x xs ys later alone =
    all_both (λ t. x.timestamp < t.timestamp) (λ t. filter (at_time t.timestamp) xs ≡ t ∷ [])
    (λ t. filter (at_time t.timestamp) (x ∷ xs) ≡ t ∷ [])
    (λ t (lt : x.timestamp < t.timestamp) one.
    let other : eqb x.timestamp t.timestamp ≡ false = ne_eqb x.timestamp t.timestamp (λ same. omega arith) in
    ap (λ b. cond b (x ∷ filter (at_time t.timestamp) xs) (filter (at_time t.timestamp) xs)) other ∙ one)
    ys later alone

-- each transfer is the only one of its timestamp
pub alone_in :
    (xs : List Transfer) → IsAscending (λ s t. s.timestamp < t.timestamp) xs →
    AllByRecursion (λ t. filter (at_time t.timestamp) xs ≡ t ∷ []) xs
alone_in [] up = tt
alone_in (x ∷ xs) up = (
  ap (λ b. cond b (x ∷ filter (at_time x.timestamp) xs) (filter (at_time x.timestamp) xs)) (eq-eqb x.timestamp x.timestamp refl)
      ∙ ap (λ rest. x ∷ rest)
      (filter_none (at_time x.timestamp) xs
      (all_weaker (λ t. x.timestamp < t.timestamp) (λ t. at_time x.timestamp t ≡ false)
      (λ t (lt : x.timestamp < t.timestamp). ne_eqb t.timestamp x.timestamp (λ same. omega arith)) xs up.0)),
  alone_behind x xs xs up.0 (alone_in xs up.1),
)

-- what holds of a list's transfers holds of its entries
pub of_entries :
    (P : Transfer → Type 0) (before xs : List Transfer) → AllByRecursion P xs →
    AllByRecursion (λ (e : Entry). P e.transfer) (entries_after before xs)
of_entries P before [] all = tt
of_entries P before (t ∷ xs) all = (all.0, of_entries P (before ++ t ∷ []) xs all.1)

-- ---- the two joined

same_numbers : (a b : ℕ) → int_eq (pos a) (pos b) ≡ eqb a b
same_numbers a b =
    both_true (int_eq (pos a) (pos b)) (eqb a b)
    (λ is. (Decides-eqb a b).1 (let e : pos a ≡ pos b = (Decides-int_eq (pos a) (pos b)).0 is in cc))
    (λ is. (Decides-int_eq (pos a) (pos b)).1 (ap pos ((Decides-eqb a b).0 is)))

abbrev transfer_row : Transfer → Row
transfer_row t = transfer_values (transfer_cells t)

abbrev history_of : HistoryRow → Row
history_of row = history_values (history_cells row)

abbrev joined : List Row → Row → List Row
joined transfers row =
    map (λ transfer. row ++ transfer)
    (filter (λ transfer. is_same (column transfer 12) (column row 1)) transfers)

module _ (account : ℕ) (in_time : Value → Bool) (transfers : List Transfer) (stored : List Row)
    (held : IsPermutation (map transfer_row transfers) stored) where
  join_one :
      (e : Entry) → filter (at_time e.transfer.timestamp) transfers ≡ e.transfer ∷ [] →
      joined stored (history_of (history_row account e)) ≡ entry_values (entry_cells account e) ∷ []
  join_one e alone =
      let test : Row → Bool = λ row. is_same (column row 12) (Int (pos e.transfer.timestamp)) in
      let found : filter test (map transfer_row transfers) ≡ transfer_row e.transfer ∷ [] =
      filter-map test transfer_row transfers ∙ ap (map transfer_row) (same_time e ∙ alone) in
      let only : filter test stored ≡ transfer_row e.transfer ∷ [] =
      one_permutation (transfer_row e.transfer) (filter test stored)
      (subst (λ front. IsPermutation front (filter test stored)) found
      (IsPermutation-filter test (map transfer_row transfers) stored held)) in
      ap (map (λ transfer. history_of (history_row account e) ++ transfer)) only
    where
      same_time :
          (e : Entry) →
          filter (λ t. is_same (column (transfer_row t) 12) (Int (pos e.transfer.timestamp))) transfers
          ≡ filter (at_time e.transfer.timestamp) transfers
      same_time e =
          filter_same (λ t. int_eq (pos t.timestamp) (pos e.transfer.timestamp)) (at_time e.transfer.timestamp) transfers
          (all_of (λ t. int_eq (pos t.timestamp) (pos e.transfer.timestamp) ≡ at_time e.transfer.timestamp t)
          (λ t. same_numbers t.timestamp e.transfer.timestamp) transfers)

  join_all :
      (es : List Entry) →
      AllByRecursion (λ e. filter (at_time e.transfer.timestamp) transfers ≡ e.transfer ∷ []) es →
      flat_map (joined stored) (map (λ e. history_of (history_row account e)) es)
      ≡ map (λ e. entry_values (entry_cells account e)) es
  join_all [] alone = refl
  join_all (e ∷ es) alone =
      (λ i. join_one e alone.0 i ++ flat_map (joined stored) (map (λ e. history_of (history_row account e)) es))
      ∙ ap (λ rest. entry_values (entry_cells account e) ∷ rest) (join_all es alone.1)

-- a history row is the account's where its column says so
own_row :
    IsOneToOne → (account : ℕ) (in_time : Value → Bool) → account < 2 ^ 128 →
    (rows : List HistoryRow) → AllByRecursion (λ row. row.account < 2 ^ 128) rows →
    history_when (column_of account) in_time (map history_of rows)
    ≡ map history_of (filter (is_own account in_time) rows)
own_row one account in_time fits rows all =
    filter-map (λ row. is_blob (column_of account) (column row 0) && in_time (column row 1)) history_of rows
    ∙ ap (map history_of)
    (filter_same (λ row. bytes_eq (column_of row.account) (column_of account) && in_time (Int (pos row.timestamp)))
    (is_own account in_time) rows
    (all_weaker (λ row. row.account < 2 ^ 128)
    (λ row. (bytes_eq (column_of row.account) (column_of account) && in_time (Int (pos row.timestamp))) ≡ is_own account in_time row)
    (λ row fit. ap (λ b. b && in_time (Int (pos row.timestamp))) (tells_id one row.account account fit fits)) rows all))

-- the account's entries are those of the list, in any order
pub entries_there :
    IsOneToOne → (account : ℕ) (in_time : Value → Bool) → account < 2 ^ 128 →
    (transfers : List Transfer) (es : List Entry) (stored_transfers stored_history : List Row) →
    IsPermutation (map transfer_row transfers) stored_transfers →
    IsPermutation (map history_of (flat_map both_rows es)) stored_history →
    AllByRecursion (λ row. row.account < 2 ^ 128) (flat_map both_rows es) →
    AllByRecursion (λ e. HasTwoAccounts e.transfer) es →
    AllByRecursion (λ e. filter (at_time e.transfer.timestamp) transfers ≡ e.transfer ∷ []) es →
    IsPermutation (map (λ e. entry_values (entry_cells account e)) (filter (is_timed account in_time) es))
    (with_transfers stored_transfers (history_when (column_of account) in_time stored_history))
entries_there one account in_time fits transfers es stored_transfers stored_history held_t held_h narrow differ alone =
    let own = filter (is_timed account in_time) es in
    let test : Row → Bool = λ row. is_blob (column_of account) (column row 0) && in_time (column row 1) in
    let rows_are : filter test (map history_of (flat_map both_rows es)) ≡ map (λ e. history_of (history_row account e)) own =
    own_row one account in_time fits (flat_map both_rows es) narrow
    ∙ ap (map history_of) (own_history account in_time es differ)
    ∙ map-map history_of (history_row account) own in
    let there : IsPermutation (map (λ e. history_of (history_row account e)) own) (filter test stored_history) =
    subst (λ front. IsPermutation front (filter test stored_history)) rows_are
    (IsPermutation-filter test (map history_of (flat_map both_rows es)) stored_history held_h) in
    subst (λ front. IsPermutation front (flat_map (joined stored_transfers) (filter test stored_history)))
    (join_all account in_time transfers stored_transfers held_t own
    (all-filter (λ e. filter (at_time e.transfer.timestamp) transfers ≡ e.transfer ∷ []) (is_timed account in_time) es alone))
    (IsPermutation-flat_map (joined stored_transfers) (map (λ e. history_of (history_row account e)) own) (filter test stored_history) there)
