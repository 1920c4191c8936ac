use Rattle.std.proofs.Common.{rules}
use Rattle.ledger_sql.proofs.AddLemmas.{in_ledger}
use Rattle.ledger_sql.proofs.FileTexts.{tenant_added}
use Rattle.ledger_sql.proofs.InsertTexts.{inserting}
use Rattle.ledger_sql.proofs.adding.add_tenant.Goals as goal

pub returns : goal.returns
returns g c = rw c.done.ensures (tenant_added c.args.number c.args.name.now c.args.digest.now _ _ (search rules) _ _ (in_ledger inserting.tenant _ c.requires) c.execute.ensures.survives c.execute.result c.execute.ensures.runs)
