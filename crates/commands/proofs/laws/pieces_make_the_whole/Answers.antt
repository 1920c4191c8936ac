use Rattle.commands.proofs.WholeLemmas.{make_the_whole}
use Rattle.commands.proofs.WholeStatements.{make_the_statement}
use Rattle.commands.proofs.laws.pieces_make_the_whole.Goals as goal

pub returns-clause-entries : goal.returns-clause-entries
returns-clause-entries c = make_the_whole

pub returns-clause-statement : goal.returns-clause-statement
returns-clause-statement c = make_the_statement
