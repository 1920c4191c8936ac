use Rattle.std.proofs.Common.{◌≡◌, ℕ, ◌<◌, true}
use Rattle.stored_ledgers.specs.Directory.{has_number}
use Rattle.stored_ledgers.proofs.joining.least_missing.Given as goal

abbrev pub invariant-loop-number : goal.invariant-loop-number
invariant-loop-number l = (k : ℕ) → 0 < k → k < l.number → has_number l.rows k ≡ true
