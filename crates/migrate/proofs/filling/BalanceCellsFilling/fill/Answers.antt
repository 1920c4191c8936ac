use Rattle.std.proofs.Common.{arith}
use Rattle.migrate.proofs.FillLemmas.{filled}
use Rattle.migrate.proofs.filling.BalanceCellsFilling.fill.Goals as goal

pub returns : goal.returns
returns g c = filled c.fill_balance.ensures c.requires (omega arith)
