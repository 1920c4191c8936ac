use Rattle.ledger_sql.proofs.MarkLemmas.{released}
use Rattle.ledger_sql.proofs.stages.release_mark.Goals as goal

pub returns : goal.returns
returns g c = rw c.done.ensures (released _ _ c.requires c.execute.ensures.survives c.execute.result c.execute.ensures.runs)
