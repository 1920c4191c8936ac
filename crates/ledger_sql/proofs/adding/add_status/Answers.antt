use Rattle.std.proofs.Common.{refl, rules}
use Rattle.rows.specs.Cells.{status_cells}
use Rattle.ledger_sql.specs.Schema.{status_table}
use Rattle.ledger_sql.specs.Values.{status_values}
use Rattle.ledger_sql.proofs.AddLemmas.{in_balances}
use Rattle.ledger_sql.proofs.InsertTexts.{inserting, row_writes, status_taken}
use Rattle.ledger_sql.proofs.adding.add_status.Goals as goal

pub returns : goal.returns
returns g c = rw c.done.ensures (row_writes _ 6 3 13 status_table c.args.tenant (status_values (status_cells c.args.row.now)) refl (status_taken c.args.tenant (status_cells c.args.row.now)) _ (search rules) _ _ (in_balances inserting.status _ c.requires.inside) c.execute.ensures.survives c.execute.result c.execute.ensures.runs)
