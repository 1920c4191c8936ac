-- What is held of a tenant's rows: their times, and where their entries stand.
use Rattle.std.specs.Prelude.{◌≡◌, ℕ, All, List, map, Option, Some, IfSome, slice_get}
use Rattle.std.specs.List.{enumerate_from}
use Rattle.std.specs.Option.{option_map}
use Rattle.rows.specs.TypedRows.{TypedRows, FileRows}
use Rattle.running.specs.declared.entry.Entry.{Entry}
use Rattle.running.specs.declared.entry.Entry.TheVariants.{Opened, Moved}
use Rattle.running.specs.Entries.{time_of}
use Rattle.audit.specs.declared.told.Told.{Told}
use Rattle.audit.specs.declared.entries.EntryPlace.{EntryPlace}
use Rattle.audit.specs.declared.entries.RowPlace.{RowPlace}
use Rattle.audit.specs.declared.entries.RowPlace.TheVariants.{Account, Transfer}
use Rattle.audit.specs.Told.{TellsRows, account_times, transfer_times}

-- the clock, the timestamps and the failed ids of the rows
pub record Holds (told : Told) (rows : TypedRows) : Type 0 where
  pub clock : told.clock ≡ rows.clock
  pub accounts : told.account_times.items ≡ account_times rows
  pub transfers : told.transfer_times.items ≡ transfer_times rows
  pub failed : told.failed.items ≡ rows.failed

-- they are those of rows of a file
abbrev pub IsHeld : FileRows → Told → Type 0
IsHeld rows told = (typed : TypedRows) × TellsRows rows typed × Holds told typed

-- the entry that stands there
abbrev pub entry_at : TypedRows → RowPlace → Option Entry
entry_at rows (Account place) = option_map Opened (slice_get rows.accounts place)
entry_at rows (Transfer place) = option_map Moved (slice_get rows.transfers place)

-- its timestamp is kept beside its place
abbrev pub IsTimed : TypedRows → EntryPlace → Type 0
IsTimed rows place = IfSome (entry_at rows place.row) (λ entry. place.time ≡ time_of entry)

-- the places of a table's rows with these timestamps
abbrev pub places_of : (ℕ → RowPlace) → List ℕ → List EntryPlace
places_of row times =
    map (λ it. record { time = it.1; row = row it.0 }) (enumerate_from 0 times)

-- these entries stand at these places
pub record ArePlacesOf
    (rows : TypedRows) (entries : List Entry) (places : List EntryPlace) : Type 0 where
  pub there : map (λ place. entry_at rows place.row) places ≡ map Some entries
  pub timed : All (IsTimed rows) places

-- these entries are read from the rows at these places
abbrev pub AreEntriesIn : FileRows → List EntryPlace → List Entry → Type 0
AreEntriesIn rows places entries =
    (typed : TypedRows) × TellsRows rows typed × ArePlacesOf typed entries places
