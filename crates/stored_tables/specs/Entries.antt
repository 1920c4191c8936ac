-- An account's entries, as a file has them.
use Rattle.std.specs.Prelude.{◌≡◌, ℕ, pos, Bool, ◌&&◌, List, filter}
use Rattle.records.specs.Machine.{Machine}
use Rattle.records.specs.Reads.{Entry, entries_of, is_entry_of}
use Rattle.rows.specs.Cells.{history_cells, transfer_cells}
use Rattle.rows.specs.Prescribed.{history_row}
use Rattle.rows.specs.Widths.{IsStorableHistory, IsStorableTransfer}
use Rattle.sqlite_value.specs.declared.value.Value.{Value}
use Rattle.sqlite_value.specs.declared.value.Value.TheVariants.{Int}
use Rattle.ledger_sql.specs.declared.entry_cells.EntryCells.{EntryCells}

-- the cells in which a file has it
abbrev pub entry_cells : ℕ → Entry → EntryCells
entry_cells account entry = record {
  history = history_cells (history_row account entry);
  transfer = transfer_cells entry.transfer;
}

-- these cells are of this entry, and a file can hold it
pub record AreCellsOf (account : ℕ) (entry : Entry) (cells : EntryCells) : Type 0 where
  pub history : IsStorableHistory (history_row account entry)
  pub transfer : IsStorableTransfer entry.transfer
  pub are : cells ≡ entry_cells account entry

-- the account's entries whose timestamp passes a test, oldest first
abbrev pub account_entries : Machine → ℕ → (Value → Bool) → List Entry
account_entries m account in_time =
    filter (λ entry. is_entry_of account entry.transfer
    && in_time (Int (pos entry.transfer.timestamp)))
    (entries_of m)
