use Rattle.whole_runs.proofs.FaultLemmas.{nothing_later_is_found}
use Rattle.whole_runs.proofs.laws.nothing_later_is_found.Goals as goal

pub returns : goal.returns
returns g c =
    nothing_later_is_found g.L.Reopening.has_failed g.L.Reopening.means g.L.Reopening.names
    g.L.Reopening.refuses
