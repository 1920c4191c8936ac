use Rattle.engine.proofs.AcceptedIsNext.{sent_as_stored}
use Rattle.engine.proofs.Sound.{sound}
use Rattle.engine.proofs.laws.sent_again_is_same.Goals as goal

pub returns : goal.returns
returns c m ev timestamp valid h = sent_as_stored m ev timestamp (sound m valid) h
