use Rattle.ledger_sql.proofs.CreateTexts.{creating, table_made}
use Rattle.ledger_sql.proofs.creating.make_status.Goals as goal

pub returns : goal.returns
returns g c = rw c.done.ensures (table_made _ _ _ creating.status _ _ c.requires c.execute.ensures.survives c.execute.result c.execute.ensures.runs)
