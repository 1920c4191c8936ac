use Rattle.clients.proofs.EventLemmas.{turns_lead_on}
use Rattle.clients.proofs.laws.clients_are_courses.Goals as goal

pub returns : goal.returns
returns g c =
    turns_lead_on g.L.Ledgers.means g.C.Moments.gives c.connections_are_courses.ensures.exchanges
    g.met.L.Ledgers.lived
