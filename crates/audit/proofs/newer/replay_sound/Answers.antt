use Rattle.std.proofs.Common.{List, Vec, Global, subst}
use Rattle.records.specs.Machine.{new_machine}
use Rattle.rows.specs.TypedRows.{lists_of}
use Rattle.running.specs.declared.entry.Entry.{Entry}
use Rattle.rows.specs.declared.history_row.HistoryRow.{HistoryRow}
use Rattle.rows.specs.Prescribed.{history_rows}
use Rattle.running.specs.Entries.{IsFirstRefused, machine_of}
use Rattle.running.specs.Refused.{IfRefused}
use Rattle.audit.specs.Held.{AreEntriesIn}
use Rattle.audit.proofs.RefusedRows.{all_accepted}
use Rattle.audit.proofs.ToldRows.{told_list}
use Rattle.audit.proofs.newer.replay_sound.Goals as goal

pub replay_from-requires : goal.replay_from-requires
replay_from-requires c = (c.requires.0, c.requires.1)

pub returns-in-Ok : goal.returns-in-Ok
returns-in-Ok c entries are = (
  (c.in-Ok.ensures.accepted entries are).1,
  told_list (λ (list : Vec HistoryRow Global). list.items) c.new-history.result c.replay_from.new.history (history_rows (machine_of entries)) c.new-history.ensures.items (c.in-Ok.ensures.told entries are),
)

pub unreachable-requires : goal.unreachable-requires
unreachable-requires c =
    let rows = lists_of c.args.source.now.rows.now in
    let first = subst (λ fault. IfRefused fault (λ n. (es : List Entry) → AreEntriesIn rows c.args.source.now.places.items es → IsFirstRefused new_machine es n)) c.in-Err-Refused.field-0-is c.in-Err-Refused.ensures.refused in
    all_accepted new_machine c.requires.0 c.in-Err-Refused.field-0-0 c.requires.2 (first c.requires.0 c.requires.1)
