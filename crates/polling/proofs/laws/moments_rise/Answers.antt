use Rattle.polling.specs.Serving.{rules}
use Rattle.polling.proofs.RisingLemmas.{moments_rise}
use Rattle.polling.proofs.laws.moments_rise.Goals as goal

pub returns : goal.returns
returns g c =
    moments_rise (rules g.L.Ledgers.means g.C.Moments.gives g.H.Steward.renews g.H.Steward.waits g.P.Peers.does)
