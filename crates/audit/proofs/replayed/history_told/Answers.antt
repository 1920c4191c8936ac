use Rattle.std.proofs.Common.{Vec, Global, subst}
use Rattle.rows.specs.declared.history_row.HistoryRow.{HistoryRow}
use Rattle.rows.specs.Prescribed.{history_rows}
use Rattle.running.specs.Entries.{machine_of}
use Rattle.audit.specs.Replayed.{IsReplayed}
use Rattle.audit.specs.Told.{entries_told}
use Rattle.audit.proofs.ToldRows.{told_list, where_accepted}
use Rattle.audit.proofs.replayed.history_told.Goals as goal

pub replay_told-requires : goal.replay_told-requires
replay_told-requires c = (c.requires.0, c.requires.1, c.requires.2, c.requires.3)

pub returns : goal.returns
returns c typed tells holds good =
    told_list (λ (list : Vec HistoryRow Global). list.items) c.new-history.result c.replay_told.new.history (history_rows (machine_of (entries_told typed))) c.new-history.ensures.items
    (where_accepted _ _ _ c.in-Accepted.is (c.in_ok-replay_told.ensures.told typed tells holds good))

pub unreachable-requires : goal.unreachable-requires
unreachable-requires c =
    let r = c.requires in
    let replayed = c.in_ok-replay_told.ensures.replayed r.0 r.1 r.2 r.3 in
    r.4 c.in-Refused.field-0 (subst (IsReplayed r.0) c.in-Refused.is replayed).0
