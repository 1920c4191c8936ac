use Rattle.statement.proofs.PlainLines.{lines_plain}
use Rattle.statement.proofs.laws.lines_are_plain.Goals as goal

pub returns : goal.returns
returns c = lines_plain
