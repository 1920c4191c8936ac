use Rattle.stored_ledgers.proofs.KeyedLemmas.{moves_key}
use Rattle.stored_ledgers.proofs.laws.keying_moves_key.Goals as goal

pub returns : goal.returns
returns c = moves_key
