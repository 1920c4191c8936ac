use Rattle.clients.proofs.EventLemmas.{serve_each_alone}
use Rattle.clients.proofs.laws.clients_serve_each_alone.Goals as goal

pub returns : goal.returns
returns g c =
    serve_each_alone g.L.Ledgers.means g.C.Moments.gives c.each_tenant_sees_itself.ensures
    c.clients_are_courses.ensures
