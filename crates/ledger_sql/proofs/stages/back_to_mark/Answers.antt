use Rattle.ledger_sql.proofs.MarkLemmas.{gone_back}
use Rattle.ledger_sql.proofs.stages.back_to_mark.Goals as goal

pub returns : goal.returns
returns g c = rw c.done.ensures (gone_back _ _ c.requires c.execute.ensures.survives c.execute.result c.execute.ensures.runs)
