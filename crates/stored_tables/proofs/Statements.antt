-- What each statement does to the rows of its tenant.
use Rattle.std.proofs.Common.{◌≡◌, ℕ, ◌<◌, ◌^◌, ℤ, pos, Bool, true, not, eqb, List, [], ◌∷◌, ◌++◌, filter, map, Option, Some, option_map, IfSome, refl, sym, ap, subst, ◌∙◌}
use Rattle.std.specs.List.{AllByRecursion}
use Rattle.std.specs.List.Sorted.{IsPermutation}
use Rattle.std.specs.Option.{option_to_list}
use Rattle.std.proofs.lemmas.List.Elements.{recursion_from_All}
use Rattle.amount.specs.Column.{column_of, IsOneToOne}
use Rattle.sqlite_trees.proofs.ListLemmas.{all_weaker}
use Rattle.sqlite_value.specs.Order.{Row}
use Rattle.sqlite_trees.specs.Tree.{Trees}
use Rattle.sqlite.specs.State.{State}
use Rattle.sqlite.proofs.Callers.{one_permutation}
use Rattle.records.specs.declared.account.Account.{Account}
use Rattle.records.specs.declared.transfer.Transfer.{Transfer}
use Rattle.rows.specs.declared.balance_row.BalanceRow.{BalanceRow}
use Rattle.rows.specs.declared.status_row.StatusRow.{StatusRow}
use Rattle.rows.specs.declared.history_row.HistoryRow.{HistoryRow}
use Rattle.rows.specs.Cells.{account_cells, transfer_cells, balance_cells, status_cells, history_cells}
use Rattle.records.specs.declared.facts.PendingState.{PendingState}
use Rattle.rows.specs.Changes.{set_balances, set_state}
use Rattle.rows.specs.Keyed.{row_with, changed}
use Rattle.rows.specs.Widths.{IsStorableStatus}
use Rattle.rows.specs.Tables.{HasDistinctKeys, without_key}
use Rattle.ledger_sql.specs.Effects.{IsLedger, AddsRows, SetsRow, SetsOne, Picks}
use Rattle.ledger_sql.specs.Rowids.{IsNumbered}
use Rattle.ledger_sql.specs.Strangers.{is_ours}
use Rattle.ledger_sql.specs.StrangerLaws.{strangers_stay}
use Rattle.ledger_sql.specs.TableRows.{clock_rows, account_rows, transfer_rows, balance_rows, status_rows, history_rows, failed_rows, has_id, with_id}
use Rattle.ledger_sql.specs.Values.{clock_values, account_values, transfer_values, balance_values, status_values, history_values, id_values}
use Rattle.rows.specs.TypedRows.{TypedRows}
use Rattle.stored_tables.specs.Frames.{AreNumbered}
use Rattle.stored_tables.specs.Holds.{HasRows, HoldsRows}
use Rattle.stored_tables.specs.Moves.{ChangesRows, MovesRows, Any, IsThere, HasStatus, IsStatusOf}
use Rattle.stored_tables.proofs.RowMoves.{with_more, tells_id, one, found_row, with_changed, found_key, found_all, if_found, some_of}
use Rattle.stored_tables.proofs.SameValues.{CellsTellRows, same_status}
use Rattle.stored_tables.proofs.OneTableMoves.{StaysAside, clock_moved, account_moved, transfer_moved, balance_moved, status_moved, history_moved, failed_moved}

-- what is known of rows with keys
abbrev pub Alone : Type 0 → Type 0
Alone R = (key : R → ℕ) (id : ℕ) (xs : List R) → HasDistinctKeys key xs → filter (λ row. eqb (key row) id) xs ≡ option_to_list (row_with key id xs)

abbrev pub Replaced : Type 0 → Type 0
Replaced R = (key : R → ℕ) (id : ℕ) (change : R → R) (xs : List R) (row : R) → HasDistinctKeys key xs → row_with key id xs ≡ Some row → IsPermutation (change row ∷ without_key key id xs) (changed key id change xs)

module _ (tenant : ℤ) (old new : State) (ledger : IsLedger old.now.schema) where
  abbrev was : Trees
  was = old.now.trees

  abbrev is : Trees
  is = new.now.trees

  added_aside : (rows : ℤ → Trees → List Row) (tree : ℕ) (added : List Row) → is_ours tree ≡ true → AddsRows rows tree tenant added old new → IsNumbered (was tree) → StaysAside rows tree tenant old new
  added_aside rows tree added ours adds num = record { tables = adds.tables; others = adds.others; strangers = strangers_stay tree old new ours adds.inside.schema adds.tables; numbered = adds.numbered num }

  -- rows that are added to one table leave what they leave of it
  rows_added : {R : Type 0} (values : R → Row) (table : ℤ → Trees → List Row) (tree : ℕ) (of : TypedRows → List R) (more : List R) (change : TypedRows → TypedRows) → is_ours tree ≡ true → AddsRows table tree tenant (map values more) old new
      → (AreNumbered was → IsNumbered (was tree)) → ((rows : TypedRows) → HoldsRows tenant rows was → HasRows values (of rows) (table tenant was))
      → ((rows : TypedRows) → AreNumbered was → HoldsRows tenant rows was → StaysAside table tree tenant old new → HasRows values (of rows ++ more) (table tenant is) → MovesRows tenant (change rows) old.now new.now) → ChangesRows tenant Any change old new
  rows_added values table tree of more change ours adds numbered holds moves = record {
    inside = adds.inside;
    moves = λ rows can num held. moves rows num held (added_aside table tree (map values more) ours adds (numbered num)) (with_more values (of rows) more (table tenant was) (table tenant is) (holds rows held) adds.own);
  }

  pub account_added : (a : Account) → AddsRows account_rows 5 tenant (account_values (account_cells a) ∷ []) old new → ChangesRows tenant Any (λ rows. record rows { accounts = rows.accounts ++ a ∷ [] }) old new
  account_added a adds = rows_added (λ row. account_values (account_cells row)) account_rows 5 (λ rows. rows.accounts) (a ∷ []) _ refl adds (λ num. num.1.1.1.0) (λ rows held. held.accounts) (λ rows num held. account_moved tenant rows old new ledger num held (rows.accounts ++ a ∷ []))

  pub transfer_added : (t : Transfer) → AddsRows transfer_rows 8 tenant (transfer_values (transfer_cells t) ∷ []) old new → ChangesRows tenant Any (λ rows. record rows { transfers = rows.transfers ++ t ∷ [] }) old new
  transfer_added t adds = rows_added (λ row. transfer_values (transfer_cells row)) transfer_rows 8 (λ rows. rows.transfers) (t ∷ []) _ refl adds (λ num. num.1.1.1.1.0) (λ rows held. held.transfers) (λ rows num held. transfer_moved tenant rows old new ledger num held (rows.transfers ++ t ∷ []))

  pub balance_added : (b : BalanceRow) → AddsRows balance_rows 11 tenant (balance_values (balance_cells b) ∷ []) old new → ChangesRows tenant Any (λ rows. record rows { balances = rows.balances ++ b ∷ [] }) old new
  balance_added b adds = rows_added (λ row. balance_values (balance_cells row)) balance_rows 11 (λ rows. rows.balances) (b ∷ []) _ refl adds (λ num. num.1.1.1.1.1.0) (λ rows held. held.balances) (λ rows num held. balance_moved tenant rows old new ledger num held (rows.balances ++ b ∷ []))

  pub status_added : (s : StatusRow) → AddsRows status_rows 13 tenant (status_values (status_cells s) ∷ []) old new → ChangesRows tenant Any (λ rows. record rows { statuses = rows.statuses ++ s ∷ [] }) old new
  status_added s adds = rows_added (λ row. status_values (status_cells row)) status_rows 13 (λ rows. rows.statuses) (s ∷ []) _ refl adds (λ num. num.1.1.1.1.1.1.0) (λ rows held. held.statuses) (λ rows num held. status_moved tenant rows old new ledger num held (rows.statuses ++ s ∷ []))

  pub history_added : (d c : HistoryRow) → AddsRows history_rows 15 tenant (history_values (history_cells d) ∷ history_values (history_cells c) ∷ []) old new → ChangesRows tenant Any (λ rows. record rows { history = rows.history ++ d ∷ c ∷ [] }) old new
  history_added d c adds = rows_added (λ row. history_values (history_cells row)) history_rows 15 (λ rows. rows.history) (d ∷ c ∷ []) _ refl adds (λ num. num.1.1.1.1.1.1.1.0) (λ rows held. held.history) (λ rows num held. history_moved tenant rows old new ledger num held (rows.history ++ d ∷ c ∷ []))

  pub failed_added : (id : ℕ) → AddsRows failed_rows 17 tenant (id_values (column_of id) ∷ []) old new → ChangesRows tenant Any (λ rows. record rows { failed = rows.failed ++ id ∷ [] }) old new
  failed_added id adds = rows_added (λ (other : ℕ). id_values (column_of other)) failed_rows 17 (λ rows. rows.failed) (id ∷ []) _ refl adds (λ num. num.1.1.1.1.1.1.1.1.0) (λ rows held. held.failed) (λ rows num held. failed_moved tenant rows old new ledger num held (rows.failed ++ id ∷ []))

  set_aside : (rows : ℤ → Trees → List Row) (tree : ℕ) (test : Row → Bool) (values : Row) → is_ours tree ≡ true → SetsRow rows tree tenant test values old new → StaysAside rows tree tenant old new
  set_aside rows tree test values ours sets = record { tables = sets.tables; others = sets.others; strangers = strangers_stay tree old new ours sets.inside.schema sets.tables; numbered = sets.numbered }

  pub clock_set : (clock : ℕ) → SetsOne clock_rows 4 tenant (λ r. true) (clock_values (pos clock)) old new → ChangesRows tenant Any (λ rows. record rows { clock = clock }) old new
  clock_set clock sets = record {
    inside = sets.inside;
    moves = λ rows can num held.
        let row = clock_values (pos rows.clock) in
        let set = sets.one row (ap (filter (λ r. true)) held.clock) num.1.1.0 in
        clock_moved tenant rows old new ledger num held clock (set_aside clock_rows 4 _ _ refl set)
        (one_permutation (clock_values (pos clock)) (clock_rows tenant is) (subst (λ rs. IsPermutation (clock_values (pos clock) ∷ filter (λ r. not true) rs) (clock_rows tenant is)) held.clock set.own));
  }

  module _ (columns : IsOneToOne) where
    tells : {R : Type 0} (values : R → Row) (key : R → ℕ) (id : ℕ) (xs : List R) → ((x : R) → has_id (column_of id) (values x) ≡ Rattle.std.specs.Str.bytes_eq (column_of (key x)) (column_of id)) → id < 2 ^ 128 → AllByRecursion (λ x. key x < 2 ^ 128) xs → AllByRecursion (λ x. has_id (column_of id) (values x) ≡ eqb (key x) id) xs
    tells values key id xs shape fits all = all_weaker (λ x. key x < 2 ^ 128) (λ x. has_id (column_of id) (values x) ≡ eqb (key x) id) (λ x p. shape x ∙ tells_id columns (key x) id p fits) xs all

    pub balance_set : Alone BalanceRow → Replaced BalanceRow → (row : BalanceRow) → SetsOne balance_rows 11 tenant (has_id (column_of row.account)) (balance_values (balance_cells row)) old new
        → ChangesRows tenant (λ rows. IsThere (λ r. r.account) row.account rows.balances) (λ rows. record rows { balances = set_balances row.account row.balances rows.balances }) old new
    balance_set alone replaced row sets = record {
      inside = sets.inside;
      moves = λ rows can num held.
          let values : BalanceRow → Row = λ r. balance_values (balance_cells r) in
          let key : BalanceRow → ℕ = λ r. r.account in
          let change : BalanceRow → BalanceRow = λ r. record r { balances = row.balances } in
          let there = some_of (row_with key row.account rows.balances) can.found in
          let r = there.0 in
          let ids = recursion_from_All (λ x. key x < 2 ^ 128) rows.balances can.ids in
          let is_key = found_key key row.account rows.balances r there.1 in
          let fits : row.account < 2 ^ 128 = subst (λ n. n < 2 ^ 128) is_key (found_all (λ x. key x < 2 ^ 128) key row.account rows.balances r ids there.1) in
          let told = tells values key row.account rows.balances (λ x. refl) fits ids in
          let single = one values key row.account (has_id (column_of row.account)) rows.balances told (balance_rows tenant was) held.balances (alone key row.account rows.balances can.distinct) r there.1 in
          let set = sets.one (values r) single num.1.1.1.1.1.0 in
          let same : values (change r) ≡ values row = λ i. values (record { account = is_key i; balances = row.balances }) in
          balance_moved tenant rows old new ledger num held (set_balances row.account row.balances rows.balances) (set_aside balance_rows 11 _ _ refl set)
          (with_changed values key row.account (has_id (column_of row.account)) rows.balances told (balance_rows tenant was) held.balances change r (balance_rows tenant is)
          (replaced key row.account change rows.balances r can.distinct there.1)
          (subst (λ front. IsPermutation (front ∷ filter (λ x. not (has_id (column_of row.account) x)) (balance_rows tenant was)) (balance_rows tenant is)) (sym same) set.own));
    }

    -- the status row that was found is set to this state
    pub state_set : Alone StatusRow → Replaced StatusRow → (id : ℕ) (state : PendingState) (row : StatusRow) (found : IsStatusOf tenant id was (Some row)) → SetsOne status_rows 13 tenant (has_id (column_of row.transfer)) (status_values (status_cells (record row { state = state }))) old new
        → ChangesRows tenant (λ rows. HasStatus id rows.statuses) (λ rows. record rows { statuses = set_state id state rows.statuses }) old new
    state_set alone replaced id state row found sets = record {
      inside = sets.inside;
      moves = λ rows can num held.
          let values : StatusRow → Row = λ r. status_values (status_cells r) in
          let key : StatusRow → ℕ = λ r. r.transfer in
          let change : StatusRow → StatusRow = λ r. record r { state = state } in
          let there = sym (found rows held can.storable can.there.distinct) in
          let ids = recursion_from_All (λ x. key x < 2 ^ 128) rows.statuses can.there.ids in
          let is_key = found_key key id rows.statuses row there in
          let fits : id < 2 ^ 128 = subst (λ n. n < 2 ^ 128) is_key (found_all (λ x. key x < 2 ^ 128) key id rows.statuses row ids there) in
          let told = tells values key id rows.statuses (λ x. refl) fits ids in
          let single = one values key id (has_id (column_of id)) rows.statuses told (status_rows tenant was) held.statuses (alone key id rows.statuses can.there.distinct) row there in
          let own_set : SetsOne status_rows 13 tenant (has_id (column_of id)) (values (change row)) old new = subst (λ n. SetsOne status_rows 13 tenant (has_id (column_of n)) (values (change row)) old new) is_key sets in
          let set = own_set.one (values row) single num.1.1.1.1.1.1.0 in
          status_moved tenant rows old new ledger num held (set_state id state rows.statuses) (set_aside status_rows 13 _ _ refl set)
          (with_changed values key id (has_id (column_of id)) rows.statuses told (status_rows tenant was) held.statuses change row (status_rows tenant is)
          (replaced key id change rows.statuses row can.there.distinct there) set.own);
    }

    -- what is found under an id is the status row with this id
    pub status_found : Alone StatusRow → CellsTellRows → (id : ℕ) (found : Option StatusRow) → id < 2 ^ 128 → IfSome found IsStorableStatus → Picks (with_id (column_of id) (status_rows tenant was)) (option_map (λ row. status_values (status_cells row)) found) → IsStatusOf tenant id was found
    status_found alone cells id found fits storable picks = λ rows held all distinct.
        let values : StatusRow → Row = λ r. status_values (status_cells r) in
        let key : StatusRow → ℕ = λ r. r.transfer in
        let by_one = recursion_from_All IsStorableStatus rows.statuses all in
        let ids = all_weaker IsStorableStatus (λ x. key x < 2 ^ 128) (λ x (p : IsStorableStatus x). p.transfer) rows.statuses by_one in
        let told = tells values key id rows.statuses (λ x. refl) fits ids in
        found_row values key id (has_id (column_of id)) rows.statuses told (status_rows tenant was) held.statuses (alone key id rows.statuses distinct) IsStorableStatus (same_status cells) found
        (if_found IsStorableStatus key id rows.statuses by_one) storable picks
