use Rattle.chain.proofs.EventTrials.{IsTrying}
use Rattle.chain.proofs.batch.run_events.Given as goal

abbrev pub invariant-loop-place : goal.invariant-loop-place
invariant-loop-place g l =
    IsTrying g.T.Tables.means g.E.BatchEvent.rules l.events l.first l.clock l.place l.fn.tables
    l.tables
