-- Rows that a file can hold: each value is within its width, and what stands in a whole number of
-- 64 bits with sign is below 2^63.
use Rattle.std.specs.Prelude.{◌<◌, ◌^◌, All}
use Rattle.records.specs.declared.account.Account.{Account}
use Rattle.records.specs.declared.transfer.Transfer.{Transfer}
use Rattle.records.specs.declared.balances.Balances.{Balances}
use Rattle.records.specs.Widths.{IsAccountInWidth, IsTransferInWidth}
use Rattle.rows.specs.declared.balance_row.BalanceRow.{BalanceRow}
use Rattle.rows.specs.declared.status_row.StatusRow.{StatusRow}
use Rattle.rows.specs.declared.history_row.HistoryRow.{HistoryRow}
use Rattle.rows.specs.StatusNumbers.{IsStorableDue}
use Rattle.rows.specs.TypedRows.{TypedRows}

-- an account that fits a file
pub record IsStorableAccount (a : Account) : Type 0 where
  pub widths : IsAccountInWidth a
  pub timestamp : a.timestamp < 2 ^ 63

-- a transfer that does
pub record IsStorableTransfer (t : Transfer) : Type 0 where
  pub widths : IsTransferInWidth t
  pub timestamp : t.timestamp < 2 ^ 63
  pub at : t.at < 2 ^ 63

-- the four sums are amounts
pub record AreBalancesInWidth (b : Balances) : Type 0 where
  pub debits_pending : b.debits.pending < 2 ^ 128
  pub debits_posted : b.debits.posted < 2 ^ 128
  pub credits_pending : b.credits.pending < 2 ^ 128
  pub credits_posted : b.credits.posted < 2 ^ 128

-- an account's balances fit a file
pub record IsStorableBalance (row : BalanceRow) : Type 0 where
  pub account : row.account < 2 ^ 128
  pub balances : AreBalancesInWidth row.balances

-- so does the state of a pending transfer
pub record IsStorableStatus (row : StatusRow) : Type 0 where
  pub transfer : row.transfer < 2 ^ 128
  pub due : IsStorableDue row.due

-- and so do balances after an entry
pub record IsStorableHistory (row : HistoryRow) : Type 0 where
  pub account : row.account < 2 ^ 128
  pub timestamp : row.timestamp < 2 ^ 63
  pub balances : AreBalancesInWidth row.balances

-- all rows of a tenant
pub record AreStorable (rows : TypedRows) : Type 0 where
  pub clock : rows.clock < 2 ^ 63
  pub accounts : All IsStorableAccount rows.accounts
  pub transfers : All IsStorableTransfer rows.transfers
  pub balances : All IsStorableBalance rows.balances
  pub statuses : All IsStorableStatus rows.statuses
  pub history : All IsStorableHistory rows.history
  pub failed : All (λ id. id < 2 ^ 128) rows.failed
