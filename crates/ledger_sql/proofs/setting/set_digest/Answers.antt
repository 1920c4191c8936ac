use Rattle.std.proofs.Common.{rules}
use Rattle.ledger_sql.proofs.DigestText.{digest_written}
use Rattle.ledger_sql.proofs.setting.set_digest.Goals as goal

pub returns : goal.returns
returns g c = rw c.done.ensures (digest_written c.args.number c.args.digest.now _ (search rules) _ _ c.requires c.execute.ensures.survives c.execute.result c.execute.ensures.runs)
