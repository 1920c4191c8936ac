use Rattle.service.proofs.Isolation.{isolated}
use Rattle.service.proofs.laws.tenants_are_isolated.Goals as goal

pub returns : goal.returns
returns c = isolated c.meanings_are_unique.ensures.head
