use Rattle.std.proofs.Common.{◌-◌, length}
use Rattle.file_sums.specs.Sums.{AreWholeTo}
use Rattle.file_sums.proofs.sums.Sums.read.Given as goal

-- what was read so far is whole
abbrev pub invariant-loop-found : goal.invariant-loop-found
invariant-loop-found l = AreWholeTo l.bytes l.sums l.len

abbrev pub decreases-loop-found : goal.decreases-loop-found
decreases-loop-found l = length l.bytes - l.len
