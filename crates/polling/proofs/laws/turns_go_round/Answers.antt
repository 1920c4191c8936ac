use Rattle.polling.proofs.RingLemmas.{go_round}
use Rattle.polling.proofs.laws.turns_go_round.Goals as goal

pub returns : goal.returns
returns c = go_round
