use Rattle.std.proofs.Common.{List, refl, subst}
use Rattle.records.specs.Machine.{new_machine}
use Rattle.rows.specs.TypedRows.{lists_of}
use Rattle.running.specs.declared.entry.Entry.{Entry}
use Rattle.running.specs.Entries.{IsFirstRefused}
use Rattle.running.specs.Refused.{IfRefused}
use Rattle.audit.specs.Held.{AreEntriesIn}
use Rattle.audit.specs.Told.{entries_told}
use Rattle.audit.proofs.RefusedRows.{no_refused_row}
use Rattle.audit.proofs.replayed.replay_told.Goals as goal

pub replay_from-requires : goal.replay_from-requires
replay_from-requires g c =
    let typed = c.requires.0 in
    (entries_told typed, (typed, c.requires.1, c.in_ok-places.ensures typed c.requires.2 c.requires.3))

pub returns-in-Ok-clause-replayed : goal.returns-in-Ok-clause-replayed
returns-in-Ok-clause-replayed g c typed tells holds good =
    let replayed = c.in-Ok.ensures.accepted (entries_told typed) (typed, tells, c.in_ok-places.ensures typed holds good) in
    (no_refused_row typed (entries_told typed) refl replayed.0, replayed.1)

pub returns-in-Ok-clause-told : goal.returns-in-Ok-clause-told
returns-in-Ok-clause-told g c typed tells holds good = c.in-Ok.ensures.told (entries_told typed) (typed, tells, c.in_ok-places.ensures typed holds good)

pub refused_place-requires : goal.refused_place-requires
refused_place-requires g c =
    let typed = c.requires.0 in
    let places = c.in_ok-places.ensures typed c.requires.2 c.requires.3 in
    let first = subst (λ fault. IfRefused fault (λ n. (es : List Entry) → AreEntriesIn (lists_of c.args.rows.now) c.in_ok-places.places.items es → IsFirstRefused new_machine es n)) c.in-Err-Refused.field-0-is c.in-Err-Refused.ensures.refused in
    (typed, c.requires.1, places, first (entries_told typed) (typed, c.requires.1, places))

pub returns-in-Err-Refused-clause-replayed : goal.returns-in-Err-Refused-clause-replayed
returns-in-Err-Refused-clause-replayed g c typed tells holds good =
    let places = c.in_ok-places.ensures typed holds good in
    let first = subst (λ fault. IfRefused fault (λ n. (es : List Entry) → AreEntriesIn (lists_of c.args.rows.now) c.in_ok-places.places.items es → IsFirstRefused new_machine es n)) c.in-Err-Refused.field-0-is c.in-Err-Refused.ensures.refused in
    c.refused_place.ensures typed tells places (first (entries_told typed) (typed, tells, places))
