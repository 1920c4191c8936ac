use Rattle.openings.proofs.OpenedLemmas.{covers_more}
use Rattle.openings.proofs.due_sets.due_set.Goals as goal

pub loop-cells-preserved : goal.loop-cells-preserved
loop-cells-preserved c =
    covers_more _ _ c.args.statuses.now c.loop-cells.cells-index _ c.in_ok-keep_due.ensures.grows
    c.in_ok-keep_due.ensures.kept c.loop-cells.invariant c.loop-cells-test.true
