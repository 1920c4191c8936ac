use Rattle.std.proofs.Common.{arith}
use Rattle.std.proofs.lemmas.Grind.{common_steps}
use Rattle.audit.proofs.times.counts.Goals as goal

pub loop-time-preserved : goal.loop-time-preserved
loop-time-preserved c = λ q. grind (arith, common_steps, c.loop-time.invariant q)
