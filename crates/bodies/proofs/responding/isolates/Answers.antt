use Rattle.bodies.proofs.Isolation.{isolated}
use Rattle.bodies.proofs.responding.isolates.Goals as goal

pub returns : goal.returns
returns c = isolated c.responses_lead_on.ensures c.each_tenant_sees_itself.ensures
