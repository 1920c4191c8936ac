use Rattle.statement.proofs.PlainExtracts.{extracts_plain}
use Rattle.statement.proofs.laws.narrow_extracts_are_plain.Goals as goal

pub returns : goal.returns
returns c = extracts_plain
