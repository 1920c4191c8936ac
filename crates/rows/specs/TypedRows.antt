-- The rows of one tenant, typed and as a file has them.
use Rattle.std.specs.Prelude.{ℕ, ℤ, pos, List, [], ◌∷◌, map}
use Rattle.amount.specs.Column.{column_of}
use Rattle.records.specs.declared.account.Account.{Account}
use Rattle.records.specs.declared.transfer.Transfer.{Transfer}
use Rattle.rows.specs.declared.balance_row.BalanceRow.{BalanceRow}
use Rattle.rows.specs.declared.status_row.StatusRow.{StatusRow}
use Rattle.rows.specs.declared.history_row.HistoryRow.{HistoryRow}
use Rattle.rows.specs.declared.account_cells.AccountCells.{AccountCells}
use Rattle.rows.specs.declared.transfer_cells.TransferCells.{TransferCells}
use Rattle.rows.specs.declared.balance_cells.BalanceCells.{BalanceCells}
use Rattle.rows.specs.declared.status_cells.StatusCells.{StatusCells}
use Rattle.rows.specs.declared.history_cells.HistoryCells.{HistoryCells}
use Rattle.rows.specs.declared.tenant_rows.TenantRows.{TenantRows}
use Rattle.rows.specs.Cells.{account_cells, transfer_cells, balance_cells, status_cells, history_cells}

-- in the types of the model
pub record TypedRows : Type 0 where
  pub clock : ℕ
  pub accounts : List Account
  pub transfers : List Transfer
  pub balances : List BalanceRow
  pub statuses : List StatusRow
  pub history : List HistoryRow
  pub failed : List ℕ

-- as a file has them
pub record FileRows : Type 0 where
  pub clocks : List ℤ
  pub accounts : List AccountCells
  pub transfers : List TransferCells
  pub balances : List BalanceCells
  pub statuses : List StatusCells
  pub history : List HistoryCells
  pub failed : List (List ℕ)

-- the lists of a `TenantRows`
abbrev pub lists_of : TenantRows → FileRows
lists_of rows = record {
  clocks = rows.clocks.items;
  accounts = rows.accounts.items;
  transfers = rows.transfers.items;
  balances = rows.balances.items;
  statuses = rows.statuses.items;
  history = rows.history.items;
  failed = rows.failed.items;
}

-- typed rows in the cells of a file
abbrev pub cells_of : TypedRows → FileRows
cells_of rows = record {
  clocks = pos rows.clock ∷ [];
  accounts = map account_cells rows.accounts;
  transfers = map transfer_cells rows.transfers;
  balances = map balance_cells rows.balances;
  statuses = map status_cells rows.statuses;
  history = map history_cells rows.history;
  failed = map column_of rows.failed;
}
