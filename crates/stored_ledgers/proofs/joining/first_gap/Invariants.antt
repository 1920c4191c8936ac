use Rattle.std.proofs.Common.{◌≡◌, ℕ, ◌<◌, true}
use Rattle.stored_ledgers.specs.Directory.{has_number}
use Rattle.stored_ledgers.proofs.joining.first_gap.Given as goal

abbrev pub invariant-loop-row : goal.invariant-loop-row
invariant-loop-row l =
    (0 < l.number) × ((k : ℕ) → 0 < k → k < l.number → has_number l.rows k ≡ true)
