-- What is known of all valid machines and their rows, as the crates below tell it.
use Rattle.std.specs.Prelude.{◌≡◌, ℕ, List, IsPermutation}
use Rattle.std.specs.List.Sorted.{IsSortedByKey}
use Rattle.std.specs.Ordering.{nat_cmp}
use Rattle.engine.specs.EntryLaws.{ValidExactlyEntryByEntry}
use Rattle.records.specs.Machine.{Machine}
use Rattle.records.specs.Valid.{IsValid}
use Rattle.rows.specs.declared.balance_row.BalanceRow.{BalanceRow}
use Rattle.rows.specs.declared.status_row.StatusRow.{StatusRow}
use Rattle.rows.specs.declared.history_row.HistoryRow.{HistoryRow}
use Rattle.rows.specs.Prescribed.{rows_for}
use Rattle.rows.specs.SameRows.{AreSameRows}
use Rattle.rows.specs.Tables.{AreKeyed, IsAscendingBy}
use Rattle.rows.specs.TypedRows.{TypedRows, cells_of}
use Rattle.rows.specs.Widths.{AreStorable}
use Rattle.running.specs.Entries.{ReplayedIsValid, ValidReplays}

-- rows that a file can hold are told by their cells
abbrev pub OneReading : Type 0
OneReading =
    (xs ys : TypedRows) → AreStorable xs → AreStorable ys → cells_of xs ≡ cells_of ys → xs ≡ ys

-- those of a valid machine have keys of their own
abbrev pub KeysAreDistinct : Type 0
KeysAreDistinct =
    (m : Machine) (rows : TypedRows) → IsValid m → AreSameRows (rows_for 3 m) rows → AreKeyed rows

-- ascending rows are in order in one way
abbrev pub OneOrder : Type 0 → Type 0
OneOrder R =
    (key : R → ℕ) (xs ys : List R) →
    IsAscendingBy key xs → IsPermutation xs ys → IsSortedByKey key nat_cmp ys → xs ≡ ys

-- all that is known
pub record Laws : Type 0 where
  pub reading : OneReading
  pub fit : (version : ℕ) (m : Machine) → IsValid m → AreStorable (rows_for version m)
  pub keys : KeysAreDistinct
  pub balances : OneOrder BalanceRow
  pub statuses : OneOrder StatusRow
  pub history : OneOrder HistoryRow
  pub accounts_up :
      (m : Machine) → IsValid m → IsAscendingBy (λ row. row.timestamp) (rows_for 3 m).accounts
  pub transfers_up :
      (m : Machine) → IsValid m → IsAscendingBy (λ row. row.timestamp) (rows_for 3 m).transfers
  pub replays : ValidReplays
  pub replayed : ReplayedIsValid
  pub entry_by_entry : ValidExactlyEntryByEntry
