use Rattle.std.proofs.Common.{rules}
use Rattle.rows.specs.Cells.{history_cells}
use Rattle.ledger_sql.proofs.AddLemmas.{in_ledger}
use Rattle.ledger_sql.proofs.InsertTexts.{inserting, history_added}
use Rattle.ledger_sql.proofs.adding.add_history.Goals as goal

pub returns : goal.returns
returns g c = rw c.done.ensures (history_added c.args.tenant (history_cells c.args.debit.now) (history_cells c.args.credit.now) _ _ (search rules) _ _ (in_ledger inserting.histories _ c.requires.inside) c.execute.ensures.survives c.execute.result c.execute.ensures.runs)
