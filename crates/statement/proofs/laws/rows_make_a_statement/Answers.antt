use Rattle.statement.proofs.WholeStatement.{rows_make}
use Rattle.statement.proofs.laws.rows_make_a_statement.Goals as goal

pub returns : goal.returns
returns g c = rows_make g.W.Drain.written
