use Rattle.std.proofs.Common.{◌≤◌, length}
use Rattle.polling.specs.Steps.{TakesTurns}
use Rattle.polling.proofs.gathering.Gathered.take_turns.Given as goal

-- So many have their turns so far.
abbrev pub invariant-loop-taken : goal.invariant-loop-taken
invariant-loop-taken l = record {
  takes : TakesTurns l.fn.self.ring l.self.ring l.chosen;
  others : length l.chosen.others.items ≤ l.taken;
  batches : length l.chosen.batches.items ≤ l.taken;
}
