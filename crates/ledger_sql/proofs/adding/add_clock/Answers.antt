use Rattle.std.proofs.Common.{pos, rules}
use Rattle.ledger_sql.proofs.AddLemmas.{in_ledger}
use Rattle.ledger_sql.proofs.FileTexts.{clock_added}
use Rattle.ledger_sql.proofs.InsertTexts.{inserting}
use Rattle.ledger_sql.proofs.adding.add_clock.Goals as goal

pub returns : goal.returns
returns g c = rw c.done.ensures (clock_added c.args.tenant (pos c.args.clock) _ _ (search rules) _ _ (in_ledger inserting.clock _ c.requires.inside) c.execute.ensures.survives c.execute.result c.execute.ensures.runs)
