use Rattle.std.proofs.Common.{refl, rules}
use Rattle.rows.specs.Cells.{transfer_cells}
use Rattle.ledger_sql.specs.Schema.{transfer_table}
use Rattle.ledger_sql.specs.Values.{transfer_values}
use Rattle.ledger_sql.proofs.AddLemmas.{in_ledger}
use Rattle.ledger_sql.proofs.InsertTexts.{inserting, row_writes, transfer_taken}
use Rattle.ledger_sql.proofs.adding.add_transfer.Goals as goal

pub returns : goal.returns
returns g c = rw c.done.ensures (row_writes _ 4 14 8 transfer_table c.args.tenant (transfer_values (transfer_cells c.args.transfer.now)) refl (transfer_taken c.args.tenant (transfer_cells c.args.transfer.now)) _ (search rules) _ _ (in_ledger inserting.transfer _ c.requires.inside) c.execute.ensures.survives c.execute.result c.execute.ensures.runs)
