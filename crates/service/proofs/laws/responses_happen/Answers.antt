use Rattle.service.proofs.ConnectionEventsLemmas.{responses_happen}
use Rattle.service.proofs.laws.responses_happen.Goals as goal

pub returns : goal.returns
returns c = responses_happen c.meanings_are_unique.ensures.head
