use Rattle.polling.specs.Serving.{rules}
use Rattle.polling.proofs.LifeLemmas.{are_lives}
use Rattle.polling.proofs.laws.serving_is_a_run.Goals as goal

pub returns : goal.returns
returns g c = are_lives (rules g.L.Ledgers.means g.C.Moments.gives g.H.Steward.renews g.H.Steward.waits g.P.Peers.does)
