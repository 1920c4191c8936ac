-- Rows whose cells can be read.
use Rattle.std.specs.Prelude.{◌≡◌, ℕ, ℤ, pos, All, List, [], ◌∷◌, ◌⊎◌}
use Rattle.rows.specs.declared.account_cells.AccountCells.{AccountCells}
use Rattle.rows.specs.declared.transfer_cells.TransferCells.{TransferCells}
use Rattle.rows.specs.declared.status_cells.StatusCells.{StatusCells}
use Rattle.rows.specs.declared.history_cells.HistoryCells.{HistoryCells}
use Rattle.rows.specs.Cells.{account_cells, transfer_cells}
use Rattle.rows.specs.TypedRows.{FileRows}
use Rattle.rows.specs.Widths.{IsStorableAccount, IsStorableTransfer}
use Rattle.audit.specs.Order.{HasValue, IsBadRow}

-- a whole number that is not negative
abbrev pub IsNatural : ℤ → Type 0
IsNatural cell = (n : ℕ) × (cell ≡ pos n)

-- one clock, which is not negative
abbrev pub HasOneClock : List ℤ → Type 0
HasOneClock clocks = (clock : ℕ) × (clocks ≡ pos clock ∷ [])

-- the cells of an account
abbrev pub IsAccountRow : AccountCells → Type 0
IsAccountRow = HasValue account_cells IsStorableAccount

-- the cells of a transfer
abbrev pub IsTransferRow : TransferCells → Type 0
IsTransferRow = HasValue transfer_cells IsStorableTransfer

-- a state and a due time that are not negative
abbrev pub IsStatusRow : StatusCells → Type 0
IsStatusRow cells = IsNatural cells.state × IsNatural cells.due

-- a timestamp that is not negative
abbrev pub IsHistoryRow : HistoryCells → Type 0
IsHistoryRow cells = IsNatural cells.timestamp

-- the clock and the entries can be read
pub record AreShaped (rows : FileRows) : Type 0 where
  pub clock : HasOneClock rows.clocks
  pub accounts : All IsAccountRow rows.accounts
  pub transfers : All IsTransferRow rows.transfers

-- there is no clock at the first place, or a row at this place has a negative number or one that is
-- beyond its width
abbrev pub IsMisshapen : FileRows → ℕ → Type 0
IsMisshapen rows place =
    ((place ≡ 0) × (HasOneClock rows.clocks → ⊥))
    ⊎ (IsBadRow IsAccountRow rows.accounts place ⊎ IsBadRow IsTransferRow rows.transfers place)
    ⊎ IsBadRow IsStatusRow rows.statuses place
    ⊎ IsBadRow IsHistoryRow rows.history place
