use Rattle.std.proofs.Common.{length}
use Rattle.openings.proofs.KeptSets.{AreKeptTo}
use Rattle.openings.proofs.due_sets.sets_of.Given as goal

abbrev pub invariant-loop-row : goal.invariant-loop-row
invariant-loop-row l = AreKeptTo (length l.yielded) l.sets l.directory l.tenants
