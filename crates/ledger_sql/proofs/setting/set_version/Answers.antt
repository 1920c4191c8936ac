use Rattle.ledger_sql.proofs.VersionText.{current_version_set}
use Rattle.ledger_sql.proofs.setting.set_version.Goals as goal

pub returns : goal.returns
returns g c = rw c.done.ensures (current_version_set _ _ c.requires c.execute.ensures.survives c.execute.result c.execute.ensures.runs)
