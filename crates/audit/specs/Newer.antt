-- The rows of another version of the schema.
use Rattle.std.specs.Prelude.{◌≡◌, ℕ, ◌<◌, [], map}
use Rattle.records.specs.Machine.{Machine, new_machine}
use Rattle.records.specs.Step.{at_clock}
use Rattle.records.specs.Valid.{IsValid}
use Rattle.rows.specs.Cells.{balance_cells, status_cells, history_cells}
use Rattle.rows.specs.Prescribed.{rows_for}
use Rattle.rows.specs.Tables.{history_key}
use Rattle.rows.specs.TypedRows.{TypedRows, FileRows}
use Rattle.running.specs.Entries.{CanCome, AreNext, machine_of}
use Rattle.audit.specs.Order.{in_order}
use Rattle.audit.specs.Shapes.{AreShaped}
use Rattle.audit.specs.Sound.{AreRowsOf}
use Rattle.audit.specs.Table.{IsBadTime}
use Rattle.audit.specs.Told.{TellsRows, entries_told}

-- the machine in which no id has failed
abbrev pub none_failed : Machine → Machine
none_failed m = record m { failed = [] }

-- the entries that are told lead to the machine, but for failed ids
pub record LeadsTo (m : Machine) (told : TypedRows) : Type 0 where
  pub next : AreNext new_machine (entries_told told)
  pub can_come : CanCome (machine_of (entries_told told)) told.clock
  pub same : at_clock (machine_of (entries_told told)) told.clock ≡ none_failed m

-- the rows, with those derived rows that the machine prescribes in this version
abbrev pub with_derived : ℕ → Machine → FileRows → FileRows
with_derived version m rows = record rows {
  balances = map balance_cells (in_order (λ row. row.account) (rows_for version m).balances);
  statuses = map status_cells (in_order (λ row. row.transfer) (rows_for version m).statuses);
  history = map history_cells (in_order history_key (rows_for version m).history);
}

-- the rows of a valid machine can be read
abbrev pub SoundRowsAreRead : Type 0
SoundRowsAreRead =
    (version : ℕ) (rows : FileRows) (m : Machine) →
    IsValid m → AreRowsOf version m rows → AreShaped rows

-- what is read has times of its own
abbrev pub SoundTimesAreOwn : Type 0
SoundTimesAreOwn =
    (version : ℕ) (rows : FileRows) (told : TypedRows) (m : Machine) →
    IsValid m → AreRowsOf version m rows → TellsRows rows told →
    (place : ℕ) → IsBadTime told place → ⊥

-- and leads to the machine
abbrev pub SoundRowsLead : Type 0
SoundRowsLead =
    (version : ℕ) (rows : FileRows) (told : TypedRows) (m : Machine) →
    IsValid m → AreRowsOf version m rows → TellsRows rows told → LeadsTo m told

-- with the rows that it prescribes in another version they are its rows there
abbrev pub DerivedRowsAreTheirs : Type 0
DerivedRowsAreTheirs =
    (version to : ℕ) (rows : FileRows) (m : Machine) →
    version < 3 → IsValid m → AreRowsOf version m rows →
    AreRowsOf to (none_failed m) (with_derived to (none_failed m) rows)

-- a machine stays valid without its failed ids
abbrev pub ValidWithoutFailed : Type 0
ValidWithoutFailed = (m : Machine) → IsValid m → IsValid (none_failed m)
