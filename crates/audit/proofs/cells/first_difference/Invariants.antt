use Rattle.std.proofs.Common.{ℕ, ◌<◌, map}
use Rattle.audit.specs.Order.{Differ}
use Rattle.audit.proofs.cells.first_difference.Given as goal

abbrev pub invariant-loop-place : goal.invariant-loop-place
invariant-loop-place g l = (place : ℕ) → place < l.place → Differ l.rows (map g.C.Cells.cells l.wanted) place → ⊥
