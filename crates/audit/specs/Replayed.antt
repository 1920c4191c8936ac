-- What a replay of a tenant's entries comes to.
use Rattle.std.specs.Prelude.{ℕ, Some}
use Rattle.rows.specs.TypedRows.{TypedRows}
use Rattle.running.specs.Entries.{machine_of}
use Rattle.running.specs.Running.{IsRunning}
use Rattle.audit.specs.declared.replayed.Replayed.{Replayed}
use Rattle.audit.specs.declared.replayed.Replayed.TheVariants.{Accepted, Refused}
use Rattle.audit.specs.Order.{IsFirstPlace}
use Rattle.audit.specs.Table.{IsRefusedRow}
use Rattle.audit.specs.Told.{entries_told}

-- the machine of all entries, where none is refused, or the place of the first that is
abbrev pub IsReplayed : TypedRows → Replayed → Type 0
IsReplayed told (Accepted running) =
    ((place : ℕ) → IsRefusedRow told place → ⊥)
    × IsRunning (machine_of (entries_told told)) running
IsReplayed told (Refused place) = IsFirstPlace (IsRefusedRow told) (Some place)

-- a fact, if all entries are accepted
abbrev pub IfAllAccepted : Replayed → Type 0 → Type 0
IfAllAccepted (Accepted running) P = P
IfAllAccepted (Refused place) P = Unit {0}
