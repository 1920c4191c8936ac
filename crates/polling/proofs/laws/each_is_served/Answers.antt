use Rattle.polling.specs.Serving.{rules}
use Rattle.polling.proofs.HeardLemmas.{each_is_served}
use Rattle.polling.proofs.laws.each_is_served.Goals as goal

pub returns : goal.returns
returns g c =
    each_is_served (rules g.L.Ledgers.means g.C.Moments.gives g.H.Steward.renews g.H.Steward.waits g.P.Peers.does)
    c.clients_are_served_in_rounds.ensures.come c.clients_are_served_in_rounds.ensures.hear
    c.clients_are_served_in_rounds.ensures.exchanges c.clients_are_served_in_rounds.ensures.written
