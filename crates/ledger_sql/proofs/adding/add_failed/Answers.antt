use Rattle.std.proofs.Common.{refl, rules}
use Rattle.amount.specs.Column.{column_of}
use Rattle.ledger_sql.specs.Schema.{failed_table}
use Rattle.ledger_sql.specs.Values.{id_values}
use Rattle.ledger_sql.proofs.AddLemmas.{in_ledger}
use Rattle.ledger_sql.proofs.InsertTexts.{inserting, row_writes, failed_taken}
use Rattle.ledger_sql.proofs.adding.add_failed.Goals as goal

pub returns : goal.returns
unfolding column_of
returns g c = rw c.done.ensures (row_writes _ 8 1 17 failed_table c.args.tenant (id_values (column_of c.args.id)) refl (failed_taken c.args.tenant (column_of c.args.id)) _ (search rules) _ _ (in_ledger inserting.failed _ c.requires) c.execute.ensures.survives c.execute.result c.execute.ensures.runs)
