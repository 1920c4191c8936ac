-- A ledger's own rows fit their columns.
use Rattle.std.proofs.Common.{◌≡◌, ◌&&◌, not, true, ℕ, ℤ, pos, List, [], ◌∷◌, length, refl, sym, subst}
use Rattle.records.specs.declared.account.Account.{Account}
use Rattle.records.specs.declared.transfer.Transfer.{Transfer}
use Rattle.amount.specs.Column.{column_of}
use Rattle.rows.specs.declared.balance_row.BalanceRow.{BalanceRow}
use Rattle.rows.specs.declared.status_row.StatusRow.{StatusRow}
use Rattle.rows.specs.declared.history_row.HistoryRow.{HistoryRow}
use Rattle.rows.specs.Cells.{short_column_of, account_cells, transfer_cells, balance_cells, status_cells, history_cells}
use Rattle.sqlite_value.specs.declared.value.Value.TheVariants.{Null, Int, Text, Blob}
use Rattle.sqlite_value.specs.declared.keys.Collation.TheVariants.{Binary}
use Rattle.sqlite_value.specs.Order.{value_cmp}
use Rattle.sqlite_sql.specs.Ops.{binary, is_false, unary}
use Rattle.sqlite_sql.specs.declared.ops.BinaryOp.TheVariants.{Compare}
use Rattle.sqlite_sql.specs.declared.ops.CompareOp.TheVariants.{Eq}
use Rattle.ledger_sql.specs.Schema.{tenant_table, account_table, transfer_table}
use Rattle.ledger_sql.specs.Schema.{balance_table, status_table, history_table, failed_table}
use Rattle.ledger_sql.specs.Values.{account_values, transfer_values, balance_values}
use Rattle.ledger_sql.specs.Values.{status_values, history_values, id_values}
use Rattle.ledger_rules.specs.Written.{LedgerRowsFit}
use Rattle.ledger_rules.specs.Rows.{FitsAlone}

account_fits : (id tenant : ℤ) (x : Account) → FitsAlone account_table (Int id ∷ Int tenant ∷ account_values (account_cells x))
unfolding binary column_of short_column_of unary value_cmp lib.Ieee.is_nan lib.Ieee.lt
account_fits id tenant x = record { typed = refl; present = refl; checked = refl }

transfer_fits : (id tenant : ℤ) (x : Transfer) → FitsAlone transfer_table (Int id ∷ Int tenant ∷ transfer_values (transfer_cells x))
unfolding binary column_of short_column_of unary value_cmp lib.Ieee.is_nan lib.Ieee.lt
transfer_fits id tenant x = record { typed = refl; present = refl; checked = refl }

balance_fits : (id tenant : ℤ) (x : BalanceRow) → FitsAlone balance_table (Int id ∷ Int tenant ∷ balance_values (balance_cells x))
unfolding binary column_of short_column_of unary value_cmp lib.Ieee.is_nan lib.Ieee.lt
balance_fits id tenant x = record { typed = refl; present = refl; checked = refl }

status_fits : (id tenant : ℤ) (x : StatusRow) → FitsAlone status_table (Int id ∷ Int tenant ∷ status_values (status_cells x))
unfolding binary column_of short_column_of unary value_cmp lib.Ieee.is_nan lib.Ieee.lt
status_fits id tenant x = record { typed = refl; present = refl; checked = refl }

history_fits : (id tenant : ℤ) (x : HistoryRow) → FitsAlone history_table (Int id ∷ Int tenant ∷ history_values (history_cells x))
unfolding binary column_of short_column_of unary value_cmp lib.Ieee.is_nan lib.Ieee.lt
history_fits id tenant x = record { typed = refl; present = refl; checked = refl }

failed_fits : (id tenant : ℤ) (x : ℕ) → FitsAlone failed_table (Int id ∷ Int tenant ∷ id_values (column_of x))
unfolding binary column_of short_column_of unary value_cmp lib.Ieee.is_nan lib.Ieee.lt
failed_fits id tenant x = record { typed = refl; present = refl; checked = refl }

tenant_fits : (number : ℤ) (name digest : List ℕ) → length digest ≡ 32
    → FitsAlone tenant_table (Int number ∷ Null ∷ Text name ∷ Blob digest ∷ [])
unfolding binary unary value_cmp lib.Ieee.is_nan lib.Ieee.lt
tenant_fits number name digest long = record {
  typed = refl;
  present = refl;
  checked = subst (λ n. (not (is_false (binary (Compare Eq Binary) (Int (pos n)) (Int (pos 32)))) && true) ≡ true)
      (sym long) refl;
}

pub rows_fit : LedgerRowsFit
rows_fit = record {
  account = account_fits;
  transfer = transfer_fits;
  balance = balance_fits;
  status = status_fits;
  history = history_fits;
  failed = failed_fits;
  tenant = tenant_fits;
  clock = λ tenant clock. record { typed = refl; present = refl; checked = refl };
}
