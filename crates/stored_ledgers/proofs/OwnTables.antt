-- The typed rows of each tenant that has rows, table by table.
use Rattle.std.proofs.Common.{◌≡◌, ◌<◌, ◌^◌, ℕ, ℤ, true, inl, inr, IsTrue, List, [], ◌∷◌, filter, refl, ap, subst, ◌∙◌}
use Rattle.std.proofs.lemmas.Bool.Decides.{Decides-int_eq}
use Rattle.std.proofs.lemmas.List.Elements.{recursion_from_All}
use Rattle.std.proofs.lemmas.List.Sorted.{IsPermutation-refl}
use Rattle.std.proofs.lemmas.Slice.Eq.{bytes_eq-Decides}
use Rattle.amount.specs.Column.{IsOneToOne}
use Rattle.records.specs.declared.account.Account.{Account}
use Rattle.records.specs.declared.transfer.Transfer.{Transfer}
use Rattle.records.specs.Machine.{Machine}
use Rattle.records.specs.Valid.{IsValid}
use Rattle.rows.specs.declared.balance_row.BalanceRow.{BalanceRow}
use Rattle.rows.specs.declared.status_row.StatusRow.{StatusRow}
use Rattle.rows.specs.Prescribed.{rows_for}
use Rattle.rows.specs.SameRows.{AreSameRows}
use Rattle.rows.specs.Tables.{AreKeyed, HasDistinctKeys, IsAscendingBy, history_key}
use Rattle.rows.specs.TypedRows.{TypedRows}
use Rattle.rows.specs.Widths.{AreStorable, IsStorableAccount, IsStorableBalance, IsStorableHistory, IsStorableStatus, IsStorableTransfer}
use Rattle.rows.specs.Cells.{account_cells, transfer_cells, balance_cells, status_cells, history_cells}
use Rattle.amount.specs.Column.{column_of}
use Rattle.sqlite_value.specs.declared.value.Value.{Value}
use Rattle.sqlite_value.specs.declared.value.Value.TheVariants.{Null, Int, Real, Text, Blob}
use Rattle.sqlite_value.specs.Order.{Row, column}
use Rattle.sqlite_trees.specs.Tree.{Trees, rowid}
use Rattle.sqlite_trees.specs.View.{is_int as is_whole}
use Rattle.sqlite.specs.Effect.{Database}
use Rattle.std.specs.Prelude.{All}
use Rattle.sqlite_rules.specs.Lists.{Has}
use Rattle.sqlite_rules.proofs.ListLemmas.{all_has, has_kept}
use Rattle.ledger_sql.specs.Schema.{tenant_tree}
use Rattle.ledger_sql.specs.TableRows.{account_rows, cells_from, directory_rows, is_blob, is_int, is_own, rows_in}
use Rattle.ledger_sql.specs.TableRows.{balance_rows, failed_rows, history_rows, status_rows, transfer_rows}
use Rattle.ledger_sql.specs.Values.{account_values, balance_values, history_values, id_values, status_values, transfer_values}
use Rattle.stored_tables.specs.Holds.{HasRows, HoldsMachine}
use Rattle.stored_tables.specs.MachineOf.{machine_of}
use Rattle.stored_ledgers.specs.Directory.{IsEntry, first_number, number_in, number_of, with_digest, with_number}
use Rattle.stored_ledgers.specs.DirectoryLaws.{Among, filter_head, only_among}
use Rattle.stored_ledgers.specs.Ledger.{HasNoRows, HoldsLedgers}
use Rattle.stored_ledgers.proofs.OneRow.{has_mapped, of_mapped, once_ascending}
use Rattle.stored_ledgers.proofs.TableKeys.{IsTyped}
use Rattle.stored_ledgers.proofs.TenantLemmas.{among_filter}

-- what the laws below say of a machine
pub record MachineLaws : Type 0 where
  pub one : IsOneToOne
  pub keyed : (m : Machine) (rows : TypedRows) → IsValid m → AreSameRows (rows_for 3 m) rows → AreKeyed rows
  pub narrow : (version : ℕ) (m : Machine) → IsValid m → AreStorable (rows_for version m)
  pub accounts : (m : Machine) → IsValid m → IsAscendingBy (λ row. row.timestamp) (rows_for 3 m).accounts
  pub transfers : (m : Machine) → IsValid m → IsAscendingBy (λ row. row.timestamp) (rows_for 3 m).transfers

same_rows : (rows : TypedRows) → AreSameRows rows rows
same_rows rows = record {
  clock = refl;
  accounts = IsPermutation-refl rows.accounts;
  transfers = IsPermutation-refl rows.transfers;
  balances = IsPermutation-refl rows.balances;
  statuses = IsPermutation-refl rows.statuses;
  history = IsPermutation-refl rows.history;
  failed = IsPermutation-refl rows.failed;
}

among_has : (rows : List Row) (row : Row) → Among row rows → Has rows row
among_has [] row here = absurd here
among_has (other ∷ rows) row (inl same) = inl same
among_has (other ∷ rows) row (inr later) = inr (among_has rows row later)

has_among : (rows : List Row) (row : Row) → Has rows row → Among row rows
has_among [] row here = absurd here
has_among (other ∷ rows) row (inl same) = inl same
has_among (other ∷ rows) row (inr later) = inr (has_among rows row later)

pub int_of : (v : Value) → IsTrue (is_whole v) → (n : ℤ) × (v ≡ Int n)
int_of Null h = absurd (cc)
int_of (Int n) h = (n, refl)
int_of (Real x) h = absurd (cc)
int_of (Text t) h = absurd (cc)
int_of (Blob b) h = absurd (cc)

-- rows that are typed
is_typed : {R : Type 0} {values : R → Row} {key : R → ℕ} {fits : R → Type 0} {rows : List Row} (typed : List R)
    → HasRows values typed rows → All fits typed → HasDistinctKeys key typed → IsTyped values key fits rows
is_typed {R} {values} {key} {fits} {rows} typed held narrow once =
    record { typed = typed; held = held; narrow = recursion_from_All fits typed narrow; once = once }

module _ (laws : MachineLaws) (db : Database) (holds : HoldsLedgers db) where
  abbrev trees : Trees
  trees = db.trees

  abbrev pub listed : Row → Row
  listed row = column row 0 ∷ cells_from 2 2 row

  -- the row of a tenant that has rows
  pub parent : (n : ℤ) → (HasNoRows n trees → ⊥) → (r : Row) × Has (trees tenant_tree) r × (column r 0 ≡ Int n)
  parent n there = from (with_number n trees) refl
    where
      from : (found : List Row) → with_number n trees ≡ found → (r : Row) × Has (trees tenant_tree) r × (column r 0 ≡ Int n)
      from [] is = absurd (there (holds.owned n is))
      from (row ∷ rest) is =
          let head = filter_head (λ row. is_int n (column row 0)) (directory_rows trees) row rest is in
          let raw = of_mapped listed (trees tenant_tree) row (among_has (directory_rows trees) row head.0) in
          let whole = int_of (column raw.0 0) (all_has (λ r. IsTrue (is_whole (rowid r))) (trees tenant_tree) raw.0 holds.numbered.1.0.whole raw.1) in
          let is_n : is_int n (column raw.0 0) ≡ true = subst (λ row. is_int n (column row 0) ≡ true) raw.2 head.1 in
          (raw.0, raw.1, whole.1 ∙ ap Int ((Decides-int_eq whole.0 n).0 (subst (λ v. is_int n v ≡ true) whole.1 is_n)))

  pub entry : (r : Row) → Has (trees tenant_tree) r → IsEntry (listed r)
  entry r here = all_has IsEntry (directory_rows trees) (listed r) holds.entries (has_mapped listed (trees tenant_tree) r here)

  -- and its machine
  machine : (n : ℤ) → (HasNoRows n trees → ⊥) → HoldsMachine n (machine_of n trees) trees
  unfolding number_of
  machine n there =
      let row = parent n there in
      let known = entry row.0 row.1 in
      let among = among_filter (λ row. is_blob known.digest (column row 2)) (directory_rows trees) (listed row.0)
      (has_among (directory_rows trees) (listed row.0) (has_mapped listed (trees tenant_tree) row.0 row.1))
      (ap (is_blob known.digest) known.known ∙ (bytes_eq-Decides known.digest known.digest).1 refl) in
      let only = only_among (with_digest known.digest trees) (listed row.0) (holds.distinct.digests known.digest) among in
      holds.machines known.digest n (ap first_number only ∙ ap number_in row.2)

  keyed : (n : ℤ) (there : HasNoRows n trees → ⊥) → AreKeyed (rows_for 3 (machine_of n trees))
  keyed n there =
      let rows = rows_for 3 (machine_of n trees) in laws.keyed (machine_of n trees) rows (machine n there).valid (same_rows rows)

  narrow : (n : ℤ) (there : HasNoRows n trees → ⊥) → AreStorable (rows_for 3 (machine_of n trees))
  narrow n there = laws.narrow 3 (machine_of n trees) (machine n there).valid

  own_has : (tree width : ℕ) (n : ℤ) (x : Row) → Has (trees tree) x → is_own n x ≡ true → Has (rows_in tree width n trees) (cells_from 2 width x)
  own_has tree width n x here own = has_mapped (cells_from 2 width) (filter (is_own n) (trees tree)) x (has_kept (is_own n) (trees tree) x here own)

  -- a tenant that has a row in one of the tables has rows
  module _ (n : ℤ) (x : Row) where
    pub by_account : Has (trees 5) x → is_own n x ≡ true → HasNoRows n trees → ⊥
    by_account here own none = subst (λ rows. Has rows (cells_from 2 8 x)) none.accounts (own_has 5 8 n x here own)

    pub by_transfer : Has (trees 8) x → is_own n x ≡ true → HasNoRows n trees → ⊥
    by_transfer here own none = subst (λ rows. Has rows (cells_from 2 14 x)) none.transfers (own_has 8 14 n x here own)

    pub by_balance : Has (trees 11) x → is_own n x ≡ true → HasNoRows n trees → ⊥
    by_balance here own none = subst (λ rows. Has rows (cells_from 2 5 x)) none.balances (own_has 11 5 n x here own)

    pub by_status : Has (trees 13) x → is_own n x ≡ true → HasNoRows n trees → ⊥
    by_status here own none = subst (λ rows. Has rows (cells_from 2 3 x)) none.statuses (own_has 13 3 n x here own)

    pub by_history : Has (trees 15) x → is_own n x ≡ true → HasNoRows n trees → ⊥
    by_history here own none = subst (λ rows. Has rows (cells_from 2 6 x)) none.history (own_has 15 6 n x here own)

    pub by_failed : Has (trees 17) x → is_own n x ≡ true → HasNoRows n trees → ⊥
    by_failed here own none = subst (λ rows. Has rows (cells_from 2 1 x)) none.failed (own_has 17 1 n x here own)

    pub by_clock : Has (trees 4) x → is_int n (column x 0) ≡ true → HasNoRows n trees → ⊥
    by_clock here own none =
        subst (λ rows. Has rows (cells_from 2 1 x)) none.clock
        (has_mapped (cells_from 2 1) (filter (λ row. is_int n (column row 0)) (trees 4)) x (has_kept (λ row. is_int n (column row 0)) (trees 4) x here own))

  -- the rows of a tenant in each table are typed, and have each key once
  module _ (n : ℤ) (x : Row) where
    abbrev typed : TypedRows
    typed = rows_for 3 (machine_of n trees)

    pub accounts_by_id : Has (trees 5) x → is_own n x ≡ true
        → IsTyped (λ a. account_values (account_cells a)) (λ (a : Account). a.id) IsStorableAccount (account_rows n trees)
    accounts_by_id here own = let there = by_account n x here own in
        is_typed typed.accounts (machine n there).rows.accounts (narrow n there).accounts (keyed n there).accounts

    pub accounts_by_time : Has (trees 5) x → is_own n x ≡ true
        → IsTyped (λ a. account_values (account_cells a)) (λ (a : Account). a.timestamp) IsStorableAccount (account_rows n trees)
    accounts_by_time here own = let there = by_account n x here own in
        is_typed typed.accounts (machine n there).rows.accounts (narrow n there).accounts
        (once_ascending (λ (a : Account). a.timestamp) typed.accounts (laws.accounts (machine_of n trees) (machine n there).valid))

    pub transfers_by_id : Has (trees 8) x → is_own n x ≡ true
        → IsTyped (λ t. transfer_values (transfer_cells t)) (λ (t : Transfer). t.id) IsStorableTransfer (transfer_rows n trees)
    transfers_by_id here own = let there = by_transfer n x here own in
        is_typed typed.transfers (machine n there).rows.transfers (narrow n there).transfers (keyed n there).transfers

    pub transfers_by_time : Has (trees 8) x → is_own n x ≡ true
        → IsTyped (λ t. transfer_values (transfer_cells t)) (λ (t : Transfer). t.timestamp) IsStorableTransfer (transfer_rows n trees)
    transfers_by_time here own = let there = by_transfer n x here own in
        is_typed typed.transfers (machine n there).rows.transfers (narrow n there).transfers
        (once_ascending (λ (t : Transfer). t.timestamp) typed.transfers (laws.transfers (machine_of n trees) (machine n there).valid))

    pub balances : Has (trees 11) x → is_own n x ≡ true
        → IsTyped (λ row. balance_values (balance_cells row)) (λ (row : BalanceRow). row.account) IsStorableBalance (balance_rows n trees)
    balances here own = let there = by_balance n x here own in
        is_typed typed.balances (machine n there).rows.balances (narrow n there).balances (keyed n there).balances

    pub statuses : Has (trees 13) x → is_own n x ≡ true
        → IsTyped (λ row. status_values (status_cells row)) (λ (row : StatusRow). row.transfer) IsStorableStatus (status_rows n trees)
    statuses here own = let there = by_status n x here own in
        is_typed typed.statuses (machine n there).rows.statuses (narrow n there).statuses (keyed n there).statuses

    pub history : Has (trees 15) x → is_own n x ≡ true
        → IsTyped (λ row. history_values (history_cells row)) history_key IsStorableHistory (history_rows n trees)
    history here own = let there = by_history n x here own in
        is_typed typed.history (machine n there).rows.history (narrow n there).history (keyed n there).history

    pub failed : Has (trees 17) x → is_own n x ≡ true
        → IsTyped (λ id. id_values (column_of id)) (λ id. id) (λ id. id < 2 ^ 128) (failed_rows n trees)
    failed here own = let there = by_failed n x here own in
        is_typed typed.failed (machine n there).rows.failed (narrow n there).failed (keyed n there).failed
