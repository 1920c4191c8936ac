use Rattle.polling.specs.Serving.{rules}
use Rattle.polling.proofs.OnwardLemmas.{served_on, gives_on, ends_told}
use Rattle.polling.proofs.laws.serving_goes_on.Goals as goal

pub returns-clause-served : goal.returns-clause-served
returns-clause-served g c =
    served_on (rules g.L.Ledgers.means g.C.Moments.gives g.H.Steward.renews g.H.Steward.waits g.P.Peers.does)

pub returns-clause-turns : goal.returns-clause-turns
returns-clause-turns g c =
    gives_on (rules g.L.Ledgers.means g.C.Moments.gives g.H.Steward.renews g.H.Steward.waits g.P.Peers.does)

pub returns-clause-told : goal.returns-clause-told
returns-clause-told g c =
    ends_told (rules g.L.Ledgers.means g.C.Moments.gives g.H.Steward.renews g.H.Steward.waits g.P.Peers.does)
