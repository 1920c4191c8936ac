-- What is handed out of a database is handed out of the machine's entries.
use Rattle.std.proofs.Common.{◌≡◌, ◌⊎◌, ℕ, zero, suc, ◌+◌, ◌-◌, ◌<◌, ◌≤◌, ◌^◌, ℤ, Bool, true, List, [], ◌∷◌, ◌++◌, map, filter, reverse, take, length, Result, Ok, Err, OnOk, sym, ap, subst, ◌∙◌, arith, inl, inr, IsPermutation}
use Rattle.std.specs.List.{AllByRecursion}
use Rattle.std.proofs.lemmas.List.{reverse-append, take-map}
use Rattle.std.proofs.lemmas.List.Elements.{All-weaker, recursion_from_All}
use Rattle.std.proofs.lemmas.List.Sorted.{IsPermutation-trans, IsPermutation-sym, IsPermutation-map, IsPermutation-reverse}
use Rattle.amount.specs.Column.{column_of, IsOneToOne}
use Rattle.records.specs.declared.transfer.Transfer.{Transfer}
use Rattle.records.specs.declared.filter.Order.{Order}
use Rattle.records.specs.declared.filter.Order.TheVariants.{Oldest, Newest}
use Rattle.records.specs.Machine.{Machine}
use Rattle.records.specs.Reads.{Entry, entries_of, entries_after}
use Rattle.engine.proofs.ValidMachineLemmas.{IsEntrySound, sound}
use Rattle.rows.specs.declared.history_row.HistoryRow.{HistoryRow}
use Rattle.rows.specs.Prescribed.{rows_for, history_rows, history_row}
use Rattle.rows.specs.Tables.{IsAscendingBy}
use Rattle.rows.specs.Widths.{AreStorable, IsStorableHistory, IsStorableTransfer}
use Rattle.records.specs.Valid.{IsValid}
use Rattle.sqlite.specs.State.{State}
use Rattle.ledger_sql.specs.Effects.{IsLedger}
use Rattle.sqlite_value.specs.declared.value.Value.{Value}
use Rattle.sqlite_value.specs.Order.{Row}
use Rattle.sqlite_trees.specs.Tree.{Trees, IsAscending}
use Rattle.sqlite_trees.proofs.ListLemmas.{all_weaker, all-filter, all_both, all-permutation, ascending-filter, ascending_weaker, ascending-append}
use Rattle.ledger_sql.specs.declared.entry_cells.EntryCells.{EntryCells}
use Rattle.ledger_sql.specs.Entries.{entry_values, entries_when, AreOldestFirst, AreNewestFirst, ReadsFirst, ReadsUpTo, HandsUpTo}
use Rattle.ledger_sql.specs.TableRows.{is_from, is_until}
use Rattle.stored_tables.specs.Holds.{HoldsMachine}
use Rattle.stored_tables.specs.Entries.{account_entries, entry_cells}
use Rattle.stored_tables.specs.Handing.{AreFirst, AreAll, HandsAccount, entries_behind, is_behind}
use Rattle.stored_tables.specs.Idle.{HoldsTenant, machine_at}
use Rattle.stored_tables.proofs.BoundTimes.{all_taken}
use Rattle.stored_tables.proofs.AccountRows.{entries_there, own_all, alone_in, of_entries, is_timed, HasTwoAccounts}
use Rattle.stored_tables.proofs.AccountOrder.{ReadInOrder, IsStorableEntry, rows_of, oldest_rows, newest_rows, are_first, are_all}

-- ---- the entries stand in order of time

entries_ascend : (before xs : List Transfer) → IsAscendingBy (λ t. t.timestamp) xs → IsAscending (λ (d e : Entry). d.transfer.timestamp < e.transfer.timestamp) (entries_after before xs)
entries_ascend before [] up = tt
entries_ascend before (t ∷ xs) up =
    (of_entries (λ (s : Transfer). t.timestamp < s.timestamp) (before ++ t ∷ []) xs (recursion_from_All (λ (s : Transfer). t.timestamp < s.timestamp) xs up.0), entries_ascend (before ++ t ∷ []) xs up.1)

pub transfers_ascend : (xs : List Transfer) → IsAscendingBy (λ t. t.timestamp) xs → IsAscending (λ s t. s.timestamp < t.timestamp) xs
transfers_ascend [] up = tt
transfers_ascend (t ∷ xs) up = (recursion_from_All (λ (s : Transfer). t.timestamp < s.timestamp) xs up.0, transfers_ascend xs up.1)

-- turned
reverse_cons : {A : Type 0} (x : A) (xs : List A) → reverse (x ∷ xs) ≡ reverse xs ++ x ∷ []
reverse_cons x xs = reverse-append (x ∷ []) xs

pub all_reversed : {A : Type 0} (P : A → Type 0) (xs : List A) → AllByRecursion P xs → AllByRecursion P (reverse xs)
all_reversed P xs all = all-permutation P xs (reverse xs) (IsPermutation-reverse xs) all

pub turned : {A : Type 0} (R : A → A → Type 0) (xs : List A) → IsAscending (λ a b. R b a) xs → IsAscending R (reverse xs)
turned R [] up = tt
turned R (x ∷ xs) up =
    subst (IsAscending R) (sym (reverse_cons x xs))
    (ascending-append R (reverse xs) (x ∷ []) (turned R xs up.1) (tt, tt)
    (all_weaker (λ y. R y x) (λ y. AllByRecursion (R y) (x ∷ [])) (λ y r. (r, tt)) (reverse xs) (all_reversed (λ y. R y x) xs up.0)))

pub bounded :
    {A : Type 0} (R : A → A → Type 0) (B : A → Type 0) (xs : List A) → IsAscending R xs →
    AllByRecursion B xs → IsAscending (λ a b. R a b × B b) xs
bounded R B [] up all = tt
bounded R B (x ∷ xs) up all =
    (all_both (R x) B (λ y. R x y × B y) (λ y r b. (r, b)) xs up.0 all.1, bounded R B xs up.1 all.1)

-- ---- a tenant's rows

module _ (tenant : ℤ) (m : Machine) (trees : Trees) (held : HoldsMachine tenant m trees)
    (fit : AreStorable (rows_for 3 m)) (one : IsOneToOne)
    (up : IsAscendingBy (λ t. t.timestamp) (rows_for 3 m).transfers) (account : ℕ)
    (narrow : account < 2 ^ 128) where
  differ : AllByRecursion (λ (e : Entry). HasTwoAccounts e.transfer) (entries_of m)
  differ =
      of_entries HasTwoAccounts [] m.transfers
      (recursion_from_All HasTwoAccounts m.transfers
      (All-weaker (IsEntrySound m.accounts m.transfers) HasTwoAccounts (λ t h. h.differ) m.transfers (sound m held.valid).entries))

  there : (in_time : Value → Bool) → IsPermutation (rows_of account (account_entries m account in_time)) (entries_when tenant (column_of account) in_time trees)
  unfolding rows_for
  there in_time =
      entries_there one account in_time narrow m.transfers (entries_of m) _ _ held.rows.transfers held.rows.history
      (recursion_from_All (λ (row : HistoryRow). row.account < 2 ^ 128) (history_rows m) (All-weaker IsStorableHistory (λ row. row.account < 2 ^ 128) (λ row h. h.account) (history_rows m) fit.history))
      differ
      (of_entries (λ t. filter (λ s. Rattle.std.proofs.Common.eqb s.timestamp t.timestamp) m.transfers ≡ t ∷ []) [] m.transfers (alone_in m.transfers (transfers_ascend m.transfers up)))

  fits : (in_time : Value → Bool) → AllByRecursion (IsStorableEntry account) (account_entries m account in_time)
  unfolding rows_for
  fits in_time =
      all_both (λ e. IsStorableHistory (history_row account e)) (λ e. IsStorableTransfer e.transfer) (IsStorableEntry account)
      (λ e h t. record { history = h; transfer = t }) (account_entries m account in_time)
      (own_all IsStorableHistory account in_time (entries_of m) differ (recursion_from_All IsStorableHistory (history_rows m) fit.history))
      (all-filter (λ e. IsStorableTransfer e.transfer) (is_timed account in_time) (entries_of m)
      (of_entries IsStorableTransfer [] m.transfers (recursion_from_All IsStorableTransfer m.transfers fit.transfers)))

  fits_turned : (in_time : Value → Bool) → AllByRecursion (IsStorableEntry account) (reverse (account_entries m account in_time))
  fits_turned in_time = all_reversed (IsStorableEntry account) (account_entries m account in_time) (fits in_time)

  pub all_fit : AllByRecursion (λ (e : Entry). e.transfer.timestamp < 2 ^ 63) (entries_of m)
  unfolding rows_for
  all_fit = of_entries (λ t. t.timestamp < 2 ^ 63) [] m.transfers (recursion_from_All (λ (t : Transfer). t.timestamp < 2 ^ 63) m.transfers (All-weaker IsStorableTransfer (λ (t : Transfer). t.timestamp < 2 ^ 63) (λ t h. h.timestamp) m.transfers fit.transfers))

  pub in_time_order : (in_time : Value → Bool) → IsAscending (λ d e. (d.transfer.timestamp < e.transfer.timestamp) × (e.transfer.timestamp < 2 ^ 63)) (account_entries m account in_time)
  unfolding rows_for
  in_time_order in_time =
      bounded (λ (d e : Entry). d.transfer.timestamp < e.transfer.timestamp) (λ e. e.transfer.timestamp < 2 ^ 63) (account_entries m account in_time)
      (ascending-filter (λ (d e : Entry). d.transfer.timestamp < e.transfer.timestamp) (is_timed account in_time) (entries_of m) (entries_ascend [] m.transfers up))
      (all_weaker (IsStorableEntry account) (λ e. e.transfer.timestamp < 2 ^ 63) (λ e h. h.transfer.timestamp) (account_entries m account in_time) (fits in_time))

  module _ (once : ReadInOrder) (time : ℤ) where
    oldest : (ys : List Row) → IsPermutation (entries_when tenant (column_of account) (is_from time) trees) ys → AreOldestFirst ys → rows_of account (entries_behind m account Oldest time) ≡ ys
    oldest ys same order =
        let es = account_entries m account (is_from time) in
        oldest_rows once account es ys
        (ascending_weaker (λ d e. (d.transfer.timestamp < e.transfer.timestamp) × (e.transfer.timestamp < 2 ^ 63)) (λ d e. d.transfer.timestamp < e.transfer.timestamp) (λ d e h. h.0) es (in_time_order (is_from time)))
        (IsPermutation-trans (rows_of account es) _ ys (there (is_from time)) same) order

    newest : (ys : List Row) → IsPermutation (entries_when tenant (column_of account) (is_until time) trees) ys → AreNewestFirst ys → rows_of account (entries_behind m account Newest time) ≡ ys
    newest ys same order =
        let es = account_entries m account (is_until time) in
        newest_rows once account (reverse es) ys
        (turned (λ d e. 2 ^ 63 - d.transfer.timestamp < 2 ^ 63 - e.transfer.timestamp) es
        (ascending_weaker (λ d e. (d.transfer.timestamp < e.transfer.timestamp) × (e.transfer.timestamp < 2 ^ 63)) (λ d e. 2 ^ 63 - e.transfer.timestamp < 2 ^ 63 - d.transfer.timestamp) (λ d e h. omega arith) es (in_time_order (is_until time))))
        (IsPermutation-trans (rows_of account (reverse es)) (rows_of account es) ys
        (IsPermutation-map (λ e. entry_values (entry_cells account e)) (reverse es) es (IsPermutation-sym es (reverse es) (IsPermutation-reverse es)))
        (IsPermutation-trans (rows_of account es) _ ys (there (is_until time)) same)) order

-- ---- what is handed to a sink

-- what is no more than a number of some entries is of the first of them
first_within : (account n : ℕ) (es : List Entry) (cells : List EntryCells) → length cells ≤ n → AreFirst account es cells → AreFirst account (take n es) cells
first_within account n es [] le are = tt
first_within account n [] (c ∷ cells) le are = absurd are
first_within account zero (e ∷ es) (c ∷ cells) le are = absurd (omega arith)
first_within account (suc n) (e ∷ es) (c ∷ cells) le are = (are.0, first_within account n es cells (omega arith) are.1)

module _ {K : Type 0} (takes : K → EntryCells → K → Type 0) (is_full : K → Bool) (H : Type 0)
    (entries : List Row) (InOrder : List Row → Type 0) (account : ℕ) (es : List Entry)
    (fits_all : H → AllByRecursion (IsStorableEntry account) es)
    (read : H → (ys : List Row) → IsPermutation entries ys → InOrder ys → rows_of account es ≡ ys)
    (old new : K) where
  begun_so : (handed : List EntryCells) → H → (handed ≡ []) ⊎ ReadsFirst entries InOrder handed → AreFirst account es handed
  begun_so handed honest (inl none) = subst (AreFirst account es) (sym none) tt
  begun_so handed honest (inr begun) = are_first account es handed begun.rest (fits_all honest) (read honest (map entry_values handed ++ begun.rest) begun.all begun.order)

  -- the first of them, so many at most
  module _ (count : ℕ) where
    ended_few : {E : Type 0} (result : Result (Unit {0}) E) (handed : List EntryCells) → H → OnOk result ((is_full new ≡ true) ⊎ ReadsUpTo entry_values count entries InOrder handed) → OnOk result ((is_full new ≡ true) ⊎ AreAll account (take count es) handed)
    ended_few (Err e) handed honest ended = tt
    ended_few (Ok u) handed honest (inl full) = inl full
    ended_few (Ok u) handed honest (inr few) =
        inr (are_all account (take count es) handed (all_taken (IsStorableEntry account) count es (fits_all honest))
        (sym (take-map (λ e. entry_values (entry_cells account e)) count es) ∙ ap (take count) (read honest few.ordered few.all few.order) ∙ sym few.read_is))

    hands_few : {E : Type 0} (result : Result (Unit {0}) E) {G : Type 0} → (H → G) → HandsUpTo takes is_full G count entries InOrder old new result → HandsAccount takes is_full H account (take count es) old new result
    hands_few result so h = record {
      handed = h.handed;
      taken = h.taken;
      first = λ honest. first_within account count es h.handed (h.within (so honest)) (begun_so h.handed honest (h.first (so honest)));
      ended = λ honest. ended_few result h.handed honest (h.ended (so honest));
      wants = h.wants;
    }

-- ---- what a tenant's tables hand to it

-- rows of entries in this order
abbrev AreInOrder : Order → List Row → Type 0
AreInOrder Oldest = AreOldestFirst
AreInOrder Newest = AreNewestFirst

module _ (tenant : ℤ) (now : State) (once : ReadInOrder) (fit : (version : ℕ) (m : Machine) → IsValid m → AreStorable (rows_for version m)) (one : IsOneToOne) (up : (m : Machine) → IsValid m → IsAscendingBy (λ t. t.timestamp) (rows_for 3 m).transfers)
    (account : ℕ) (narrow : account < 2 ^ 128) (bound : ℤ) where
  abbrev m : Machine
  m = machine_at tenant now

  fits_behind : (order : Order) → HoldsTenant tenant now → AllByRecursion (IsStorableEntry account) (entries_behind m account order bound)
  fits_behind Oldest has = fits tenant m now.now.trees has.holds (fit 3 m has.holds.valid) one (up m has.holds.valid) account narrow (is_from bound)
  fits_behind Newest has = fits_turned tenant m now.now.trees has.holds (fit 3 m has.holds.valid) one (up m has.holds.valid) account narrow (is_until bound)

  read_behind : (order : Order) → HoldsTenant tenant now → (ys : List Row) → IsPermutation (entries_when tenant (column_of account) (is_behind order bound) now.now.trees) ys → AreInOrder order ys → rows_of account (entries_behind m account order bound) ≡ ys
  read_behind Oldest has = oldest tenant m now.now.trees has.holds (fit 3 m has.holds.valid) one (up m has.holds.valid) account narrow once bound
  read_behind Newest has = newest tenant m now.now.trees has.holds (fit 3 m has.holds.valid) one (up m has.holds.valid) account narrow once bound

  pub handed : {K E : Type 0} (takes : K → EntryCells → K → Type 0) (is_full : K → Bool) (Clean : Type 0) (count : ℕ) (old new : K) (result : Result (Unit {0}) E) (asked order : Order) → asked ≡ order
      → HandsUpTo takes is_full (Clean × IsLedger now.now.schema) count (entries_when tenant (column_of account) (is_behind order bound) now.now.trees) (AreInOrder order) old new result
      → HandsAccount takes is_full (Clean × HoldsTenant tenant now) account (take count (entries_behind m account asked bound)) old new result
  handed takes is_full Clean count old new result asked order is given =
      subst (λ (o : Order). HandsAccount takes is_full (Clean × HoldsTenant tenant now) account (take count (entries_behind m account o bound)) old new result) (sym is)
      (hands_few takes is_full (Clean × HoldsTenant tenant now) (entries_when tenant (column_of account) (is_behind order bound) now.now.trees) (AreInOrder order) account (entries_behind m account order bound)
      (λ h. fits_behind order h.1) (λ h. read_behind order h.1) old new count result (λ h. (h.0, h.1.schema)) given)
