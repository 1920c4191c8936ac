use Rattle.service.proofs.TurnLemmas.{each_hears}
use Rattle.service.proofs.laws.rounds_answer_each.Goals as goal

pub returns : goal.returns
returns c = each_hears
