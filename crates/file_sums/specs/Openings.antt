-- How a file is opened, by what FILE-sums says and by the log that is found.
use Rattle.std.specs.Prelude.{◌==◌, ◌||◌, not, Bool, Option, Some, None, if◌then◌else◌}
use Rattle.file_sums.specs.declared.record.Record.{Record}
use Rattle.file_sums.specs.declared.record.Record.TheVariants.{Log, NoLog}
use Rattle.file_sums.specs.declared.noted.LogNoted.{LogNoted}
use Rattle.file_sums.specs.declared.noted.LogNoted.TheVariants.{Unnamed, InUse, Done}
use Rattle.file_sums.specs.declared.noted.Noted.{Noted}
use Rattle.file_sums.specs.declared.opening.LogFound.{LogFound}
use Rattle.file_sums.specs.declared.opening.LogFound.TheVariants.{Unsigned, Short, Empty, Filled}
use Rattle.file_sums.specs.declared.opening.Opening.{Opening}
use Rattle.file_sums.specs.declared.opening.Opening.TheVariants.{Full, Trusted}

-- the table: what is appended before a trusted opening, or nothing where the opening is full
abbrev pub row_of : LogNoted → LogFound → Option (Option Record)
row_of Unnamed found = None
row_of (InUse salt) Unsigned = None
row_of (InUse salt) (Short other) = if salt == other then Some (Some NoLog) else None
row_of (InUse salt) (Empty other) = if salt == other then Some None else None
row_of (InUse salt) (Filled other) = if salt == other then Some None else None
row_of (Done salt) Unsigned = Some (Some NoLog)
row_of (Done salt) (Short other) = Some (Some NoLog)
row_of (Done salt) (Empty other) = Some (Some (Log other))
row_of (Done salt) (Filled other) = if salt == other then Some (Some (Log other)) else None

-- the opening of a row
abbrev pub opening_in : Option (Option Record) → Opening
opening_in None = Full
opening_in (Some note) = Trusted note

-- a page that was found damaged, or one that nothing is known of, asks for a full opening as well
abbrev pub opening_of : Noted → LogFound → Bool → Opening
opening_of noted found is_known =
    if noted.has_doubt || not is_known then Full else opening_in (row_of noted.log found)
