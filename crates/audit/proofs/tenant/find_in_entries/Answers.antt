use Rattle.std.proofs.Common.{ℕ, Some, None, refl, subst, arith, ◌∙◌}
use Rattle.rows.specs.TypedRows.{TypedRows, lists_of}
use Rattle.records.specs.Machine.{new_machine}
use Rattle.running.specs.Entries.{machine_of}
use Rattle.running.specs.History.{IsToldMore}
use Rattle.audit.specs.declared.replayed.Replayed.{Replayed}
use Rattle.audit.specs.declared.damage.DamageKind.TheVariants as kind
use Rattle.audit.specs.Meeting.{Met}
use Rattle.audit.specs.Replayed.{IfAllAccepted, IsReplayed}
use Rattle.audit.specs.Stages.{IsClearBelow}
use Rattle.audit.specs.Table.{IsBadTime}
use Rattle.audit.specs.Told.{TellsRows, entries_told}
use Rattle.audit.proofs.Stages.{answers_found, still_clear, first_of_told}
use Rattle.audit.proofs.tenant.find_in_entries.Goals as goal

-- no time is bad
times : (version : ℕ) (rows : _) (typed : TypedRows) → IsClearBelow version rows 3 → TellsRows rows typed → (place : ℕ) → IsBadTime typed place → ⊥
times version rows typed clear tells place bad = clear kind.Timestamp place (omega arith) (typed, tells, bad)

pub replay_told-requires : goal.replay_told-requires
replay_told-requires c =
    let held = c.requires.tells in
    (held.0, held.1, held.2, times c.args.version (lists_of c.args.rows.now) held.0 c.requires.clear held.1)

pub returns-in-Refused-clause-first : goal.returns-in-Refused-clause-first
returns-in-Refused-clause-first c =
    let rows = lists_of c.args.rows.now in
    let v = c.args.version in
    let held = c.requires.tells in
    let replayed = c.in_ok-place.ensures.replayed held.0 held.1 held.2 (times v rows held.0 c.requires.clear held.1) in
    answers_found v rows kind.Entry c.in-Refused.place (Some c.in-Refused.place) c.damage_at.result c.requires.clear (first_of_told c.cells_tell_rows.ensures v rows held.0 kind.Entry (Some c.in-Refused.place) held.1 (subst (IsReplayed held.0) c.in-Refused.is replayed)) refl c.damage_at.ensures

pub find_behind-requires-clause-running : goal.find_behind-requires-clause-running
find_behind-requires-clause-running c =
    let rows = lists_of c.args.rows.now in
    let held = c.requires.tells in
    let replayed = c.in_ok-place.ensures.replayed held.0 held.1 held.2 (times c.args.version rows held.0 c.requires.clear held.1) in
    let told = subst (λ (x : Replayed). IfAllAccepted x (IsToldMore Met c.of-meeting.result c.replay_told.new.history new_machine (machine_of (entries_told held.0)))) c.in-Accepted.is (c.in_ok-place.ensures.told held.0 held.1 held.2 (times c.args.version rows held.0 c.requires.clear held.1)) in
    (held.0, held.1, held.2, (subst (IsReplayed held.0) c.in-Accepted.is replayed).1, (c.of-meeting.result, c.of-meeting.ensures.rows ∙ c.deref.ensures.value, told c.of-meeting.result c.of-meeting.ensures.none))

pub find_behind-requires-clause-clear : goal.find_behind-requires-clause-clear
find_behind-requires-clause-clear c =
    let rows = lists_of c.args.rows.now in
    let v = c.args.version in
    let held = c.requires.tells in
    let replayed = c.in_ok-place.ensures.replayed held.0 held.1 held.2 (times v rows held.0 c.requires.clear held.1) in
    still_clear v rows kind.Entry None c.requires.clear (first_of_told c.cells_tell_rows.ensures v rows held.0 kind.Entry None held.1 (subst (IsReplayed held.0) c.in-Accepted.is replayed).0) refl
