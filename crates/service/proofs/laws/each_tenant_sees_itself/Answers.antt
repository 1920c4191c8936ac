use Rattle.service.proofs.OwnDeedLemmas.{sees_itself}
use Rattle.service.proofs.laws.each_tenant_sees_itself.Goals as goal

pub returns : goal.returns
returns c = sees_itself
