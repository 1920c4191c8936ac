use Rattle.service.proofs.ConnectionEventsLemmas.{exchanges_lead_on, connections_are_courses}
use Rattle.service.proofs.laws.connections_are_courses.Goals as goal

pub returns-clause-exchanges : goal.returns-clause-exchanges
returns-clause-exchanges g c =
    exchanges_lead_on g.L.Ledgers.means g.C.Moments.gives c.meanings_are_unique.ensures.head

pub returns-clause-connections : goal.returns-clause-connections
returns-clause-connections g c =
    connections_are_courses g.L.Ledgers.means g.C.Moments.gives c.meanings_are_unique.ensures.head
    g.met.L.Ledgers.lived
