-- What is known of a running tenant to which an entry was applied, by whether it took it.
use Rattle.std.specs.Prelude.{Bool, List}
use Rattle.std.specs.Bool.{OnTrue, OnFalse}
use Rattle.records.specs.Machine.{Machine}
use Rattle.rows.specs.declared.history_row.HistoryRow.{HistoryRow}
use Rattle.running.specs.declared.entry.Entry.{Entry}
use Rattle.running.specs.declared.running.Running.{Running}
use Rattle.running.specs.Entries.{IsNext, with_entry}
use Rattle.running.specs.History.{IsToldMore}
use Rattle.running.specs.Running.{IsRunning}

-- what it took is the next entry of its machine, and it runs on with it
abbrev pub Takes : Running → Running → Entry → Bool → Type 0
Takes old new entry took =
    OnTrue took
    ((m : Machine) → IsRunning m old → IsNext m entry × IsRunning (with_entry m entry) new)

-- its history was told
abbrev pub TellsHistory :
    {H : Type 0} → (H → H → List HistoryRow → Type 0) → H → H → Running → Entry → Bool → Type 0
TellsHistory {H} told first then old entry took =
    OnTrue took
    ((m : Machine) → IsRunning m old → IsToldMore told first then m (with_entry m entry))

-- what it did not take is not the next
abbrev pub Refuses : Running → Entry → Bool → Type 0
Refuses old entry took = OnFalse took ((m : Machine) → IsRunning m old → IsNext m entry → ⊥)
