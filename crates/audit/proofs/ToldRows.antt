-- The history that a replay tells is that of the machine at each clock.
use Rattle.std.proofs.Common.{◌≡◌, ℕ, Bool, true, false, leb, ◌&&◌, cond, List, [], ◌++◌, slice_get, append-nil, None, refl, sym, ap, ◌∙◌, subst, arith}
use Rattle.records.specs.Machine.{Machine}
use Rattle.records.specs.Step.{at_clock, max_clock}
use Rattle.rows.specs.declared.history_row.HistoryRow.{HistoryRow}
use Rattle.rows.specs.Prescribed.{rows_for, history_rows}
use Rattle.rows.specs.Tables.{AreKeyed, HasDistinctKeys, history_key}
use Rattle.rows.specs.TypedRows.{TypedRows, FileRows}
use Rattle.running.specs.Entries.{machine_of}
use Rattle.running.specs.declared.running.Running.{Running}
use Rattle.audit.specs.declared.meeting.Meeting.{Meeting}
use Rattle.audit.specs.declared.replayed.Replayed.{Replayed}
use Rattle.audit.specs.declared.replayed.Replayed.TheVariants.{Accepted}
use Rattle.audit.specs.Meeting.{HasMet, IsToldOf, Met}
use Rattle.audit.specs.Replayed.{IfAllAccepted}
use Rattle.audit.specs.declared.damage.DamageKind.TheVariants as kind
use Rattle.audit.specs.Order.{IsFirstPlace, Differ}
use Rattle.audit.specs.Stages.{IsClearBelow}
use Rattle.audit.specs.Table.{IsBadTime, IsRefusedRow}
use Rattle.audit.specs.Told.{TellsRows, entries_told, machine_told}
use Rattle.audit.proofs.DerivedRows.{has_derived}

-- a clock changes nothing of it
at_either : (here : Bool) (m : Machine) (clock : ℕ) → history_rows (cond here (at_clock m clock) m) ≡ history_rows m
at_either true m clock = refl
at_either false m clock = refl

pub told_history : (typed : TypedRows) → history_rows (machine_told typed) ≡ history_rows (machine_of (entries_told typed))
told_history typed = let m = machine_of (entries_told typed) in at_either (leb m.clock typed.clock && leb typed.clock max_clock) m typed.clock

-- so a meeting that was told it was told that of the machine at the clock
pub told_to_clock : (rows : FileRows) (typed : TypedRows) (meeting : Meeting) → HasMet rows typed meeting → IsToldOf rows (machine_told typed) meeting
told_to_clock rows typed meeting met = (met.0, met.1, subst (Met met.0 meeting) (sym (told_history typed)) met.2)

-- its rows are told apart by their keys
pub history_apart : (m : Machine) → AreKeyed (rows_for 3 m) → HasDistinctKeys history_key (history_rows m)
history_apart m keyed = subst (HasDistinctKeys history_key) (has_derived 3 m (omega arith)).history keyed.history

-- what is told to a list that was empty is all that it has
pub told_list : {F : Type 0} (items : F → List HistoryRow) (old new : F) (rows : List HistoryRow) → items old ≡ [] → ((first : F) → items old ≡ items first ++ [] → items new ≡ items first ++ rows) → items new ≡ rows
told_list items old new rows none told = told old (sym (append-nil (items old))) ∙ ap (λ (xs : List HistoryRow). xs ++ rows) none

-- what holds where all entries are accepted
pub where_accepted : (replayed : Replayed) (running : Running) (P : Type 0) → replayed ≡ Accepted running → IfAllAccepted replayed P → P
where_accepted replayed running P is holds = subst (λ (x : Replayed). IfAllAccepted x P) is holds

-- rows that are the same differ nowhere
pub nowhere : {A : Type 0} (xs ys : List A) → xs ≡ ys → IsFirstPlace (Differ xs ys) None
nowhere xs ys same place differ = differ (ap (λ zs. slice_get zs place) same)

-- no time is bad, and no entry is refused, where kinds below are clear
pub good_times : (version : ℕ) (rows : FileRows) (typed : TypedRows) → IsClearBelow version rows 4 → TellsRows rows typed → (place : ℕ) → IsBadTime typed place → ⊥
good_times version rows typed clear tells place bad = clear kind.Timestamp place (omega arith) (typed, tells, bad)

pub none_refused : (version : ℕ) (rows : FileRows) (typed : TypedRows) → IsClearBelow version rows 4 → TellsRows rows typed → (place : ℕ) → IsRefusedRow typed place → ⊥
none_refused version rows typed clear tells place bad = clear kind.Entry place (omega arith) (typed, tells, bad)
