use Rattle.service.proofs.Isolation.{health_tells_nothing}
use Rattle.service.proofs.laws.health_tells_nothing.Goals as goal

pub returns : goal.returns
returns c = health_tells_nothing c.meanings_are_unique.ensures.head
