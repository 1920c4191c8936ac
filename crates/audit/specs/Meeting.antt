-- A file's history rows beside those that a replay tells.
use Rattle.std.specs.Prelude.{◌≡◌, ℕ, ◌+◌, false, All, List, map, length, Some, slice_get}
use Rattle.records.specs.Machine.{Machine}
use Rattle.rows.specs.declared.history_row.HistoryRow.{HistoryRow}
use Rattle.rows.specs.declared.history_cells.HistoryCells.{HistoryCells}
use Rattle.rows.specs.Cells.{history_cells}
use Rattle.rows.specs.Prescribed.{history_rows}
use Rattle.rows.specs.Tables.{history_key, IsAscendingBy}
use Rattle.rows.specs.TypedRows.{TypedRows, FileRows}
use Rattle.rows.specs.Widths.{IsStorableHistory}
use Rattle.running.specs.Entries.{machine_of}
use Rattle.audit.specs.declared.meeting.Meeting.{Meeting}
use Rattle.audit.specs.Told.{entries_told}

-- a row stands at some place
abbrev pub IsAmong : List HistoryRow → HistoryRow → Type 0
IsAmong values row = (place : ℕ) × (slice_get values place ≡ Some row)

-- all that were told stand there, and so many of the others are left
pub record AreAmong (values told : List HistoryRow) (left : ℕ) : Type 0 where
  pub there : All (IsAmong values) told
  pub counted : length told + left ≡ length values

-- these rows were told to a meeting; where it found none strange they are among its rows
pub record Met (first meeting : Meeting) (told : List HistoryRow) : Type 0 where
  pub same : meeting.rows.now ≡ first.rows.now
  pub among :
      meeting.strange ≡ false → (values : List HistoryRow) → All IsStorableHistory values →
      map history_cells values ≡ meeting.rows.now → AreAmong values told meeting.left

-- rows that can be read, in order of key
abbrev pub AreAscending : List HistoryCells → Type 0
AreAscending rows =
    (values : List HistoryRow)
    × All IsStorableHistory values
    × (map history_cells values ≡ rows)
    × IsAscendingBy history_key values

-- a meeting with a file's rows was told the history of this machine
abbrev pub IsToldOf : FileRows → Machine → Meeting → Type 0
IsToldOf rows m meeting =
    (first : Meeting) × (first.rows.now ≡ rows.history) × Met first meeting (history_rows m)

-- it was told that of all entries
abbrev pub HasMet : FileRows → TypedRows → Meeting → Type 0
HasMet rows typed meeting = IsToldOf rows (machine_of (entries_told typed)) meeting
