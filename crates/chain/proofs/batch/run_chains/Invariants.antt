use Rattle.std.proofs.Common.{◌-◌, length}
use Rattle.chain.proofs.BatchProgress.{IsRunning}
use Rattle.chain.proofs.batch.run_chains.Given as goal

abbrev pub invariant-loop-start : goal.invariant-loop-start
invariant-loop-start g l =
    IsRunning g.T.Tables.means g.E.BatchEvent.rules l.batch l.first l.clock l.start l.fn.tables
    l.tables l.fn.results l.results

abbrev pub decreases-loop-start : goal.decreases-loop-start
decreases-loop-start g l = length l.batch - l.start
