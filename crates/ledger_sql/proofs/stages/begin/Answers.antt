use Rattle.ledger_sql.proofs.StageLemmas.{begun}
use Rattle.ledger_sql.proofs.stages.begin.Goals as goal

pub returns : goal.returns
returns g c = rw c.done.ensures (begun _ _ c.execute.ensures.survives c.execute.result c.execute.ensures.runs)
