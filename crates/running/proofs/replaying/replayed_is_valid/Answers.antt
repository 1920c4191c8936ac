use Rattle.running.proofs.ReplayedValid.{replayed_valid}
use Rattle.running.proofs.replaying.replayed_is_valid.Goals as goal

pub returns : goal.returns
returns c = replayed_valid
