-- One table of a tenant's moves in a transaction, and all other rows stay.
use Rattle.std.proofs.Common.{◌≡◌, ◌≢◌, ℕ, ℤ, pos, List, [], ◌∷◌, arith}
use Rattle.amount.specs.Column.{column_of}
use Rattle.sqlite_value.specs.Order.{Row}
use Rattle.sqlite_trees.specs.Tree.{Trees}
use Rattle.sqlite.specs.State.{State}
use Rattle.records.specs.declared.account.Account.{Account}
use Rattle.records.specs.declared.transfer.Transfer.{Transfer}
use Rattle.rows.specs.declared.balance_row.BalanceRow.{BalanceRow}
use Rattle.rows.specs.declared.status_row.StatusRow.{StatusRow}
use Rattle.rows.specs.declared.history_row.HistoryRow.{HistoryRow}
use Rattle.rows.specs.Cells.{account_cells, transfer_cells, balance_cells, status_cells, history_cells}
use Rattle.rows.specs.TypedRows.{TypedRows}
use Rattle.ledger_sql.specs.Effects.{IsLedger, OthersStay}
use Rattle.ledger_sql.specs.Rowids.{IsNumbered}
use Rattle.ledger_sql.specs.Schema.{schema_tree, tenant_tree}
use Rattle.ledger_sql.specs.Strangers.{KeepsStrangers}
use Rattle.ledger_sql.specs.TableRows.{clock_rows, account_rows, transfer_rows, balance_rows, status_rows, history_rows, failed_rows}
use Rattle.ledger_sql.specs.Values.{clock_values, account_values, transfer_values, balance_values, status_values, history_values, id_values}
use Rattle.stored_tables.specs.Frames.{AreNumbered, KeepsRows}
use Rattle.stored_tables.specs.Holds.{HasRows, HoldsRows}
use Rattle.stored_tables.specs.Moves.{MovesRows}
use Rattle.stored_tables.proofs.TableMoves.{ours_stay, patched, rows_kept, numbered_kept, held_kept}

-- what a statement leaves of all tenants' rows in one table
pub record StaysAside (rows : ℤ → Trees → List Row) (tree : ℕ) (tenant : ℤ) (old new : State) : Type 0 where
  pub tables : OthersStay tree old new
  pub others : (other : ℤ) → other ≢ tenant → rows other new.now.trees ≡ rows other old.now.trees
  pub strangers : KeepsStrangers old.now new.now
  pub numbered : IsNumbered (new.now.trees tree)

module _ (tenant : ℤ) (rows : TypedRows) (old new : State) (ledger : IsLedger old.now.schema) (num : AreNumbered old.now.trees) (held : HoldsRows tenant rows old.now.trees) where
  abbrev was : Trees
  was = old.now.trees

  abbrev is : Trees
  is = new.now.trees

  -- one table moves to these rows, where what stays of the others is put beside it
  one_moved : (table : ℤ → Trees → List Row) (tree : ℕ) (moved : TypedRows) → schema_tree ≢ tree → tenant_tree ≢ tree → StaysAside table tree tenant old new
      → ((other : ℤ) → table other is ≡ table other was → KeepsRows other was (patched tree was is) → KeepsRows other was is) → (HoldsRows tenant rows (patched tree was is) → HoldsRows tenant moved is) → MovesRows tenant moved old.now new.now
  one_moved table tree moved not_schema not_tenant aside keeps holds =
      let stay = ours_stay tree old new ledger aside.tables in
      record {
        numbered = numbered_kept tree was is stay num aside.numbered;
        others = record {
          version = stay.0 not_schema;
          directory = stay.1.0 not_tenant;
          others = λ other differs. keeps other (aside.others other differs) (rows_kept tree was is other stay);
        };
        strangers = aside.strangers;
        rows = holds (held_kept tenant rows was (patched tree was is) (rows_kept tree was is tenant stay) held);
      }

  pub clock_moved : (moved : ℕ) → StaysAside clock_rows 4 tenant old new → clock_rows tenant is ≡ clock_values (pos moved) ∷ [] → MovesRows tenant (record rows { clock = moved }) old.now new.now
  clock_moved moved aside own =
      one_moved clock_rows 4 (record rows { clock = moved }) (λ e. omega arith) (λ e. omega arith) aside
      (λ other own k. record { clock = own; accounts = k.accounts; transfers = k.transfers; balances = k.balances; statuses = k.statuses; history = k.history; failed = k.failed })
      (λ h. record { clock = own; accounts = h.accounts; transfers = h.transfers; balances = h.balances; statuses = h.statuses; history = h.history; failed = h.failed })

  pub account_moved : (moved : List Account) → StaysAside account_rows 5 tenant old new → HasRows (λ a. account_values (account_cells a)) moved (account_rows tenant is) → MovesRows tenant (record rows { accounts = moved }) old.now new.now
  account_moved moved aside own =
      one_moved account_rows 5 (record rows { accounts = moved }) (λ e. omega arith) (λ e. omega arith) aside
      (λ other own k. record { clock = k.clock; accounts = own; transfers = k.transfers; balances = k.balances; statuses = k.statuses; history = k.history; failed = k.failed })
      (λ h. record { clock = h.clock; accounts = own; transfers = h.transfers; balances = h.balances; statuses = h.statuses; history = h.history; failed = h.failed })

  pub transfer_moved : (moved : List Transfer) → StaysAside transfer_rows 8 tenant old new → HasRows (λ t. transfer_values (transfer_cells t)) moved (transfer_rows tenant is) → MovesRows tenant (record rows { transfers = moved }) old.now new.now
  transfer_moved moved aside own =
      one_moved transfer_rows 8 (record rows { transfers = moved }) (λ e. omega arith) (λ e. omega arith) aside
      (λ other own k. record { clock = k.clock; accounts = k.accounts; transfers = own; balances = k.balances; statuses = k.statuses; history = k.history; failed = k.failed })
      (λ h. record { clock = h.clock; accounts = h.accounts; transfers = own; balances = h.balances; statuses = h.statuses; history = h.history; failed = h.failed })

  pub balance_moved : (moved : List BalanceRow) → StaysAside balance_rows 11 tenant old new → HasRows (λ row. balance_values (balance_cells row)) moved (balance_rows tenant is) → MovesRows tenant (record rows { balances = moved }) old.now new.now
  balance_moved moved aside own =
      one_moved balance_rows 11 (record rows { balances = moved }) (λ e. omega arith) (λ e. omega arith) aside
      (λ other own k. record { clock = k.clock; accounts = k.accounts; transfers = k.transfers; balances = own; statuses = k.statuses; history = k.history; failed = k.failed })
      (λ h. record { clock = h.clock; accounts = h.accounts; transfers = h.transfers; balances = own; statuses = h.statuses; history = h.history; failed = h.failed })

  pub status_moved : (moved : List StatusRow) → StaysAside status_rows 13 tenant old new → HasRows (λ row. status_values (status_cells row)) moved (status_rows tenant is) → MovesRows tenant (record rows { statuses = moved }) old.now new.now
  status_moved moved aside own =
      one_moved status_rows 13 (record rows { statuses = moved }) (λ e. omega arith) (λ e. omega arith) aside
      (λ other own k. record { clock = k.clock; accounts = k.accounts; transfers = k.transfers; balances = k.balances; statuses = own; history = k.history; failed = k.failed })
      (λ h. record { clock = h.clock; accounts = h.accounts; transfers = h.transfers; balances = h.balances; statuses = own; history = h.history; failed = h.failed })

  pub history_moved : (moved : List HistoryRow) → StaysAside history_rows 15 tenant old new → HasRows (λ row. history_values (history_cells row)) moved (history_rows tenant is) → MovesRows tenant (record rows { history = moved }) old.now new.now
  history_moved moved aside own =
      one_moved history_rows 15 (record rows { history = moved }) (λ e. omega arith) (λ e. omega arith) aside
      (λ other own k. record { clock = k.clock; accounts = k.accounts; transfers = k.transfers; balances = k.balances; statuses = k.statuses; history = own; failed = k.failed })
      (λ h. record { clock = h.clock; accounts = h.accounts; transfers = h.transfers; balances = h.balances; statuses = h.statuses; history = own; failed = h.failed })

  pub failed_moved : (moved : List ℕ) → StaysAside failed_rows 17 tenant old new → HasRows (λ id. id_values (column_of id)) moved (failed_rows tenant is) → MovesRows tenant (record rows { failed = moved }) old.now new.now
  failed_moved moved aside own =
      one_moved failed_rows 17 (record rows { failed = moved }) (λ e. omega arith) (λ e. omega arith) aside
      (λ other own k. record { clock = k.clock; accounts = k.accounts; transfers = k.transfers; balances = k.balances; statuses = k.statuses; history = k.history; failed = own })
      (λ h. record { clock = h.clock; accounts = h.accounts; transfers = h.transfers; balances = h.balances; statuses = h.statuses; history = h.history; failed = own })
