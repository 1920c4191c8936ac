use Rattle.ledger_sql.proofs.VersionText.{balance_version_set}
use Rattle.ledger_sql.proofs.upgrading.set_balance_version.Goals as goal

pub returns : goal.returns
returns g c = rw c.done.ensures (balance_version_set _ _ c.requires c.execute.ensures.survives c.execute.result c.execute.ensures.runs)
