use Rattle.std.proofs.Common.{take}
use Rattle.audit.proofs.MetRows.{HasRead}
use Rattle.audit.proofs.meeting.ascend.Given as goal

abbrev pub invariant-loop-cells : goal.invariant-loop-cells
invariant-loop-cells l = HasRead (take l.cells-index l.rows) l.before
