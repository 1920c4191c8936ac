use Rattle.engine.proofs.ValidMachineLemmas.{sound}
use Rattle.rows.proofs.PointReads.{tells}
use Rattle.rows.proofs.laws.single_rows.Goals as goal

pub returns : goal.returns
returns c m rows id valid same = tells m rows id (sound m valid) same
