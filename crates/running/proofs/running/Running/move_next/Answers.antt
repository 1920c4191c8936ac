use Rattle.std.proofs.Common.{refl}
use Rattle.records.specs.Step.{at_clock}
use Rattle.running.proofs.ToldHistory.{told_transfer}
use Rattle.running.proofs.running.Running.move_next.Goals as goal

pub returns-clause-told : goal.returns-clause-told
returns-clause-told g c m is =
    let t = c.args.transfer.now in
    let at = at_clock m t.at in
    let settled = c.in_ok-settle_to.ensures m is in
    let accepted = c.in-Some.ensures.some at settled refl ((c.if-not-is_next.ensures m is).0 refl) in
    told_transfer g.H.HistoryTaker.told _ _ m t c.in-Some.accepted accepted.1 (c.transfer_rows.ensures at c.in-Some.accepted settled.valid accepted.0) c.in_ok-tell.ensures
