use Rattle.statement.proofs.BegunStatement.{rows_begin}
use Rattle.statement.proofs.laws.rows_begin_a_statement.Goals as goal

pub returns : goal.returns
returns g c = rows_begin g.W.Drain.written
