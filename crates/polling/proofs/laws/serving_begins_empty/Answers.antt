use Rattle.polling.proofs.LifeLemmas.{begins_empty}
use Rattle.polling.proofs.laws.serving_begins_empty.Goals as goal

pub returns : goal.returns
returns g c = begins_empty
