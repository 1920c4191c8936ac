use Rattle.std.proofs.Common.{refl, rules}
use Rattle.ledger_sql.specs.Schema.{history_table}
use Rattle.ledger_sql.specs.Values.{history_values}
use Rattle.ledger_sql.proofs.AddLemmas.{in_making}
use Rattle.ledger_sql.proofs.InsertTexts.{inserting, row_writes, history_taken}
use Rattle.ledger_sql.proofs.upgrading.fill_history.Goals as goal

pub returns : goal.returns
returns g c = rw c.done.ensures (row_writes _ 7 6 15 history_table c.args.tenant (history_values c.args.cells.now) refl (history_taken c.args.tenant c.args.cells.now, tt) _ (search rules) _ _ (in_making inserting.history _ c.requires) c.execute.ensures.survives c.execute.result c.execute.ensures.runs)
