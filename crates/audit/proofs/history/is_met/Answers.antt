use Rattle.audit.proofs.MetRows.{met_if}
use Rattle.audit.proofs.history.is_met.Goals as goal

pub returns-then-version-ge2 : goal.returns-then-version-ge2
returns-then-version-ge2 c = met_if c.is_whole.result c.args.version c.args.meeting.now c.if-version-ge2.true c.is_whole.ensures
