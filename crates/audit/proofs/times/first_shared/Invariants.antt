use Rattle.std.proofs.Common.{ℕ, ◌<◌}
use Rattle.audit.specs.Order.{IsBadRow}
use Rattle.audit.specs.Table.{IsOwnTime}
use Rattle.audit.proofs.times.first_shared.Given as goal

abbrev pub invariant-loop-place : goal.invariant-loop-place
invariant-loop-place l = (place : ℕ) → place < l.place → IsBadRow (IsOwnTime l.among) l.times place → ⊥
