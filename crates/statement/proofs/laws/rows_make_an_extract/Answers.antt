use Rattle.statement.proofs.KeptRows.{rows_make}
use Rattle.statement.proofs.laws.rows_make_an_extract.Goals as goal

pub returns : goal.returns
returns c = rows_make
