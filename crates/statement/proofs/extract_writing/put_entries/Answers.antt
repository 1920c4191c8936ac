use Rattle.statement.proofs.WrittenLines.{one_entry_more}
use Rattle.statement.proofs.extract_writing.put_entries.Goals as goal

pub loop-row-preserved : goal.loop-row-preserved
loop-row-preserved c =
    one_entry_more _ _ c.args.rows.now c.loop-row.row-index c.row-item.result _ _ _ _ _ _ _ c.loop-row-test.true c.row-item.is c.details_next.ensures c.entry-line.ensures
    c.in_ok-put_line.ensures c.loop-row.invariant
