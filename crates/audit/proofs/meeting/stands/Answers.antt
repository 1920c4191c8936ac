use Rattle.audit.proofs.MetRows.{among_if}
use Rattle.audit.proofs.meeting.stands.Goals as goal

pub returns-in-Some : goal.returns-in-Some
returns-in-Some c =
    among_if c.is_row.result c.args.rows.now c.partition_point-place.result c.in-Some.cells.now c.args.row.now c.in-Some.ensures.lookup.3.0 c.in-Some.ensures.lookup.1 c.is_row.ensures
