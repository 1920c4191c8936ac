use Rattle.engine.proofs.Sound.{sound}
use Rattle.engine.proofs.laws.failed_ids_hold.Goals as goal

pub returns : goal.returns
returns c m valid =
    let s = sound m valid in
    record { ascending = s.ascending; ids = s.failed }
