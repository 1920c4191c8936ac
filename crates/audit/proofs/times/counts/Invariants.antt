use Rattle.std.proofs.Common.{◌≡◌, ◌==◌, ℕ, unwrap_or, count_by, take}
use Rattle.std.specs.BTreeMap as tree
use Rattle.std.specs.Ordering.{nat_cmp}
use Rattle.audit.proofs.times.counts.Given as goal

abbrev pub invariant-loop-time : goal.invariant-loop-time
invariant-loop-time l = (t : ℕ) → unwrap_or (tree.get nat_cmp l.counts t) 0 ≡ count_by (λ x. x == t) (take l.time-index l.times)
