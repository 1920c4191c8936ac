use Rattle.parts.proofs.WholeRows.{whole_rows}
use Rattle.parts.proofs.laws.begins_whole.Goals as goal

pub returns : goal.returns
returns c m digest account valid = whole_rows m digest account valid
