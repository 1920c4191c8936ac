use Rattle.std.proofs.Common.{All, take}
use Rattle.openings.specs.Opened.{CoversCells}
use Rattle.openings.proofs.due_sets.due_set.Given as goal

abbrev pub invariant-loop-cells : goal.invariant-loop-cells
invariant-loop-cells l = All (CoversCells l.set) (take l.cells-index l.statuses)
