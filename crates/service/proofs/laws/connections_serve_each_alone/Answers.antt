use Rattle.service.specs.ConnectionEvents.{events_in}
use Rattle.service.proofs.laws.connections_serve_each_alone.Goals as goal

pub returns : goal.returns
returns g c first last replies runs live =
    c.each_tenant_sees_itself.ensures (g.L.Ledgers.means.tenants first.ledgers)
    (g.L.Ledgers.means.tenants last.ledgers) (events_in runs)
    (c.connections_are_courses.ensures.connections first last replies runs live)
