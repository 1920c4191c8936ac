use Rattle.std.proofs.Common.{◌≡◌, map, take}
use Rattle.audit.proofs.cells.in_cells.Given as goal

abbrev pub invariant-loop-value : goal.invariant-loop-value
invariant-loop-value g l = l.rows.items ≡ map g.C.Cells.cells (take l.value-index l.values)
