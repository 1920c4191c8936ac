use Rattle.service.proofs.Isolation.{page_tells_nothing}
use Rattle.service.proofs.laws.page_tells_nothing.Goals as goal

pub returns : goal.returns
returns c = page_tells_nothing c.meanings_are_unique.ensures.head
