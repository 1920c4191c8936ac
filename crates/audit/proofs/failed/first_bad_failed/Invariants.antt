use Rattle.std.proofs.Common.{◌≡◌, ℕ, ◌<◌}
use Rattle.records.specs.Machine.{Machine}
use Rattle.running.specs.Running.{IsRunning}
use Rattle.audit.specs.Table.{previous, IsBadFailed}
use Rattle.audit.proofs.failed.first_bad_failed.Given as goal

abbrev pub invariant-loop-place : goal.invariant-loop-place
invariant-loop-place l =
    (l.before ≡ previous l.failed l.place)
    × ((m : Machine) → IsRunning m l.running → (place : ℕ) → place < l.place → IsBadFailed l.version m l.failed place → ⊥)
