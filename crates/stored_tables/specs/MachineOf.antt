-- The machine that a tenant's rows tell, whatever these are.
use Rattle.std.specs.Prelude.{ℕ, ℤ, pos, List, [], ◌∷◌, map}
use Rattle.std.specs.Int.{w64, w128, from_be_bytes}
use Rattle.std.specs.Ordering.{nat_cmp}
use Rattle.records.specs.declared.account.Account.{Account}
use Rattle.records.specs.declared.transfer.Transfer.{Transfer}
use Rattle.records.specs.Machine.{Machine}
use Rattle.sqlite_value.specs.declared.value.Value.{Value}
use Rattle.sqlite_value.specs.declared.value.Value.TheVariants.{Int, Blob}
use Rattle.sqlite_value.specs.Order.{Row, column}
use Rattle.sqlite_keyed.specs.Lists.{sort_by}
use Rattle.sqlite_trees.specs.Tree.{Trees}
use Rattle.ledger_sql.specs.TableRows.{clock_rows, account_rows, transfer_rows, failed_rows}

-- a whole number; the number in a blob of 16 bytes; the number in a blob of 8; else 0
abbrev pub whole : Value → ℕ
whole (Int (pos n)) = n
whole _ = 0

abbrev pub wide : Value → ℕ
wide (Blob bytes) = from_be_bytes w128 bytes
wide _ = 0

abbrev pub short : Value → ℕ
short (Blob bytes) = from_be_bytes w64 bytes
short _ = 0

-- the account in a row
abbrev pub account_of : Row → Account
account_of row = record {
  id = wide (column row 0);
  user_data_128 = wide (column row 1);
  user_data_64 = short (column row 2);
  user_data_32 = whole (column row 3);
  ledger = whole (column row 4);
  code = whole (column row 5);
  flags = record { 0 = whole (column row 6) };
  timestamp = whole (column row 7);
}

-- the transfer in a row
abbrev pub transfer_of : Row → Transfer
transfer_of row = record {
  id = wide (column row 0);
  debit_account_id = wide (column row 1);
  credit_account_id = wide (column row 2);
  amount = wide (column row 3);
  pending_id = wide (column row 4);
  user_data_128 = wide (column row 5);
  user_data_64 = short (column row 6);
  user_data_32 = whole (column row 7);
  timeout = whole (column row 8);
  ledger = whole (column row 9);
  code = whole (column row 10);
  flags = record { 0 = whole (column row 11) };
  timestamp = whole (column row 12);
  at = whole (column row 13);
}

-- the clock in the first of the clock rows
abbrev pub clock_of : List Row → ℕ
clock_of [] = 0
clock_of (row ∷ rows) = whole (column row 0)

-- accounts and transfers in order of time, and failed ids in order
unfoldable pub machine_of : ℤ → Trees → Machine
machine_of tenant trees = record {
  accounts =
      sort_by (λ a b. nat_cmp a.timestamp b.timestamp)
      (map account_of (account_rows tenant trees));
  transfers =
      sort_by (λ s t. nat_cmp s.timestamp t.timestamp)
      (map transfer_of (transfer_rows tenant trees));
  clock = clock_of (clock_rows tenant trees);
  failed = sort_by nat_cmp (map (λ row. wide (column row 0)) (failed_rows tenant trees));
}
