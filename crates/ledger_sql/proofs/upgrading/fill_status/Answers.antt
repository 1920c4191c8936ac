use Rattle.std.proofs.Common.{refl, rules}
use Rattle.ledger_sql.specs.Schema.{status_table}
use Rattle.ledger_sql.specs.Values.{status_values}
use Rattle.ledger_sql.proofs.AddLemmas.{in_making}
use Rattle.ledger_sql.proofs.InsertTexts.{inserting, row_writes, status_taken}
use Rattle.ledger_sql.proofs.upgrading.fill_status.Goals as goal

pub returns : goal.returns
returns g c = rw c.done.ensures (row_writes _ 6 3 13 status_table c.args.tenant (status_values c.args.cells.now) refl (status_taken c.args.tenant c.args.cells.now) _ (search rules) _ _ (in_making inserting.status _ c.requires) c.execute.ensures.survives c.execute.result c.execute.ensures.runs)
