use Rattle.engine.proofs.EndsOnceLemmas.{each_ends_once}
use Rattle.engine.proofs.Sound.{sound}
use Rattle.engine.proofs.laws.ends_once.Goals as goal

pub returns : goal.returns
returns c m valid = each_ends_once m (sound m valid)
