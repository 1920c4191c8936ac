use Rattle.ledger_sql.proofs.AddLemmas.{in_ledger}
use Rattle.ledger_sql.proofs.FileTexts.{version_added}
use Rattle.ledger_sql.proofs.InsertTexts.{inserting}
use Rattle.ledger_sql.proofs.adding.add_version.Goals as goal

pub returns : goal.returns
returns g c = rw c.done.ensures (version_added _ _ _ (in_ledger inserting.version _ c.requires) c.execute.ensures.survives c.execute.result c.execute.ensures.runs)
