use Rattle.std.proofs.Common.{List, take, sym, subst}
use Rattle.std.proofs.lemmas.List.{take_more}
use Rattle.rows.specs.declared.history_cells.HistoryCells.{HistoryCells}
use Rattle.audit.proofs.MetRows.{HasRead, read_on}
use Rattle.audit.proofs.meeting.ascend.Goals as goal

pub loop-cells-preserved : goal.loop-cells-preserved
loop-cells-preserved c =
    let rows = c.args.rows.now in
    let i = c.loop-cells.cells-index in
    subst (λ (xs : List HistoryCells). HasRead xs c.next_above-row.result) (sym (take_more rows i _ c.loop-cells-test.true))
    (read_on (take i rows) c.loop-cells.before c.next_above-row.result _ c.loop-cells.invariant c.if-is_none.ensures c.next_above-row.ensures.cells c.next_above-row.ensures.fits c.next_above-row.ensures.above)
