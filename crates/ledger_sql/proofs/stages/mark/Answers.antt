use Rattle.ledger_sql.proofs.MarkLemmas.{marked}
use Rattle.ledger_sql.proofs.stages.mark.Goals as goal

pub returns : goal.returns
returns g c = rw c.done.ensures (marked _ _ c.requires c.execute.ensures.survives c.execute.result c.execute.ensures.runs)
