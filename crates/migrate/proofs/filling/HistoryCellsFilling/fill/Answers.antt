use Rattle.std.proofs.Common.{arith}
use Rattle.migrate.proofs.FillLemmas.{filled}
use Rattle.migrate.proofs.filling.HistoryCellsFilling.fill.Goals as goal

pub returns : goal.returns
returns g c = filled c.fill_history.ensures c.requires (omega arith)
