use Rattle.engine.proofs.ToldEndings.{tells_fates}
use Rattle.engine.proofs.Sound.{sound}
use Rattle.engine.proofs.ending_law.endings_are_told.Goals as goal

pub returns : goal.returns
returns c m a valid accepted = tells_fates m a (sound m valid) accepted
