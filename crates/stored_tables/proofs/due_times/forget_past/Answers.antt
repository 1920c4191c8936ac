use Rattle.stored_tables.proofs.PastTimes.{later_covers}
use Rattle.stored_tables.proofs.due_times.forget_past.Goals as goal

pub returns-clause-covers : goal.returns-clause-covers
returns-clause-covers c = later_covers c.args.due_times.now c.loop-due_times.due_times c.args.clock c.loop-due_times.invariant
