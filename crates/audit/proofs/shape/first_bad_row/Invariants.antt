use Rattle.std.proofs.Common.{ℕ, ◌<◌, take}
use Rattle.std.specs.List.{All}
use Rattle.audit.specs.Order.{IsBadRow}
use Rattle.audit.proofs.shape.first_bad_row.Given as goal

abbrev pub invariant-loop-place : goal.invariant-loop-place
invariant-loop-place g l =
    ((place : ℕ) → place < l.place → IsBadRow g.C.Cells.IsShaped l.rows place → ⊥)
    × All g.C.Cells.IsShaped (take l.place l.rows)
