use Rattle.std.proofs.Common.{ℕ, ◌≤◌, List}
use Rattle.std.specs.BTreeSet as sorted
use Rattle.records.specs.Machine.{Machine}
use Rattle.running.specs.Running.{IsRunning}
use Rattle.running.specs.Releasing.{IsReleasing}
use Rattle.running.proofs.running.Running.settle_to.Given as goal

abbrev pub invariant-loop : goal.invariant-loop
invariant-loop l = (m : Machine) → IsRunning m l.initial.self → m.clock ≤ l.clock → (done : List ℕ) × IsReleasing m l.clock done l.self

abbrev pub decreases-loop : goal.decreases-loop
decreases-loop l = sorted.btree_set_len l.self.statuses.due
