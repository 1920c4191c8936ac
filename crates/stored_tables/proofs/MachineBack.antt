-- A tenant's machine, read back from its rows.
use Rattle.std.proofs.Common.{◌≡◌, ℕ, ◌<◌, ◌^◌, ℤ, List, [], ◌∷◌, map, refl, ap, subst}
use Rattle.std.specs.List.{AllByRecursion}
use Rattle.std.specs.List.Sorted.{IsPermutation, IsSortedByKey}
use Rattle.std.specs.Ordering.{nat_cmp}
use Rattle.std.specs.Prelude.{All}
use Rattle.std.proofs.lemmas.List.Elements.{recursion_from_All}
use Rattle.std.proofs.lemmas.List.Sorted.{IsPermutation-map}
use Rattle.std.proofs.lemmas.Nat.{from_be_bytes-to_be_bytes_8}
use Rattle.amount.specs.Column.{column_of}
use Rattle.sqlite_trees.specs.Tree.{Trees}
use Rattle.sqlite_trees.proofs.ListLemmas.{all_weaker}
use Rattle.sqlite_value.specs.Order.{Row, column}
use Rattle.records.specs.declared.account.Account.{Account}
use Rattle.records.specs.declared.transfer.Transfer.{Transfer}
use Rattle.records.specs.Machine.{Machine}
use Rattle.rows.specs.Cells.{account_cells, transfer_cells, short_column_of}
use Rattle.rows.specs.Prescribed.{rows_for}
use Rattle.rows.specs.Tables.{IsAscendingBy}
use Rattle.rows.specs.Widths.{AreStorable, IsStorableAccount, IsStorableTransfer}
use Rattle.ledger_sql.specs.TableRows.{account_rows, transfer_rows, failed_rows}
use Rattle.ledger_sql.specs.Values.{account_values, transfer_values, id_values}
use Rattle.stored_tables.specs.Holds.{HasRows, HoldsMachine}
use Rattle.stored_tables.specs.MachineOf.{wide, account_of, transfer_of, clock_of, machine_of}
use Rattle.stored_tables.proofs.SortedBack.{sorted_back}
use Rattle.stored_tables.proofs.WideBytes.{from_be_bytes-to_be_bytes_16}

pub account_back : (a : Account) → IsStorableAccount a → account_of (account_values (account_cells a)) ≡ a
unfolding column_of short_column_of
account_back a p = rw (from_be_bytes-to_be_bytes_16 a.id p.widths.id, from_be_bytes-to_be_bytes_16 a.user_data_128 p.widths.user_data_128, from_be_bytes-to_be_bytes_8 a.user_data_64 p.widths.user_data_64) refl

pub transfer_back : (t : Transfer) → IsStorableTransfer t → transfer_of (transfer_values (transfer_cells t)) ≡ t
unfolding column_of short_column_of
transfer_back t p = λ i. record t {
  id = from_be_bytes-to_be_bytes_16 t.id p.widths.id i;
  debit_account_id = from_be_bytes-to_be_bytes_16 t.debit_account_id p.widths.debit_account_id i;
  credit_account_id = from_be_bytes-to_be_bytes_16 t.credit_account_id p.widths.credit_account_id i;
  amount = from_be_bytes-to_be_bytes_16 t.amount p.widths.amount i;
  pending_id = from_be_bytes-to_be_bytes_16 t.pending_id p.widths.pending_id i;
  user_data_128 = from_be_bytes-to_be_bytes_16 t.user_data_128 p.widths.user_data_128 i;
  user_data_64 = from_be_bytes-to_be_bytes_8 t.user_data_64 p.widths.user_data_64 i;
}

id_back : (id : ℕ) → id < 2 ^ 128 → wide (column (id_values (column_of id)) 0) ≡ id
unfolding column_of
id_back id p = from_be_bytes-to_be_bytes_16 id p

pub map_back : {R : Type 0} (values : R → Row) (back : Row → R) (xs : List R) → AllByRecursion (λ x. back (values x) ≡ x) xs → map back (map values xs) ≡ xs
map_back values back [] all = refl
map_back values back (x ∷ xs) all = λ i. all.0 i ∷ map_back values back xs all.1 i

-- what is known of rows that are read in order
abbrev pub ReadInOrder : Type 0 → Type 0
ReadInOrder R = (key : R → ℕ) (xs ys : List R) → IsAscendingBy key xs → IsPermutation xs ys → IsSortedByKey key nat_cmp ys → xs ≡ ys

-- ascending rows of a table, read back and sorted
table_back : {R : Type 0} (key : R → ℕ) (values : R → Row) (back : Row → R) (fits : R → Type 0) → ((x : R) → fits x → back (values x) ≡ x) → ReadInOrder R → (xs : List R) (rows : List Row) → All fits xs → IsAscendingBy key xs → HasRows values xs rows
    → Rattle.sqlite_keyed.specs.Lists.sort_by (λ a b. nat_cmp (key a) (key b)) (map back rows) ≡ xs
table_back key values back fits is once xs rows all up held =
    sorted_back key (once key) xs (map back rows) up
    (subst (λ front. IsPermutation front (map back rows)) (map_back values back xs (all_weaker fits (λ x. back (values x) ≡ x) is xs (recursion_from_All fits xs all))) (IsPermutation-map back (map values xs) rows held))

module _ (tenant : ℤ) (m : Machine) (trees : Trees) (held : HoldsMachine tenant m trees) (fit : AreStorable (rows_for 3 m)) (accounts_once : ReadInOrder Account) (transfers_once : ReadInOrder Transfer) (ids_once : ReadInOrder ℕ) (accounts_up : IsAscendingBy (λ a. a.timestamp) (rows_for 3 m).accounts)
    (transfers_up : IsAscendingBy (λ t. t.timestamp) (rows_for 3 m).transfers) (ids_up : IsAscendingBy (λ id. id) (rows_for 3 m).failed) where
  pub machine_back : machine_of tenant trees ≡ m
  unfolding machine_of rows_for
  machine_back = λ i. record {
    accounts = table_back (λ a. a.timestamp) (λ a. account_values (account_cells a)) account_of IsStorableAccount account_back accounts_once m.accounts (account_rows tenant trees) fit.accounts accounts_up held.rows.accounts i;
    transfers = table_back (λ t. t.timestamp) (λ t. transfer_values (transfer_cells t)) transfer_of IsStorableTransfer transfer_back transfers_once m.transfers (transfer_rows tenant trees) fit.transfers transfers_up held.rows.transfers i;
    clock = ap clock_of held.rows.clock i;
    failed = table_back (λ id. id) (λ id. id_values (column_of id)) (λ row. wide (column row 0)) (λ id. id < 2 ^ 128) id_back ids_once m.failed (failed_rows tenant trees) fit.failed ids_up held.rows.failed i;
  }
