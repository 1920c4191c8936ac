use Rattle.std.specs.BTreeSet.{btree_set_len}
use Rattle.stored_tables.proofs.PastTimes.{KeepsLater}
use Rattle.stored_tables.proofs.due_times.forget_past.Given as goal

abbrev pub invariant-loop-due_times : goal.invariant-loop-due_times
invariant-loop-due_times l = KeepsLater l.clock l.initial.due_times l.due_times

abbrev pub decreases-loop-due_times : goal.decreases-loop-due_times
decreases-loop-due_times l = btree_set_len l.due_times
