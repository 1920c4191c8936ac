use Rattle.std.proofs.Common.{pos, rules}
use Rattle.ledger_sql.proofs.UpdateTexts.{setting, clock_set}
use Rattle.ledger_sql.proofs.setting.set_clock.Goals as goal

pub returns : goal.returns
returns g c = rw c.done.ensures (clock_set _ setting.clock c.args.tenant (pos c.args.clock) _ (search rules) _ _ c.requires.inside c.execute.ensures.survives c.execute.result c.execute.ensures.runs)
