use Rattle.std.proofs.Common.{arith}
use Rattle.migrate.proofs.FillLemmas.{filled}
use Rattle.migrate.proofs.filling.StatusCellsFilling.fill.Goals as goal

pub returns : goal.returns
returns g c = filled c.fill_status.ensures c.requires (omega arith)
