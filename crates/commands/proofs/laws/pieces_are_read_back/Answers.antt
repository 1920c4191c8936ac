use Rattle.commands.proofs.ReadBack.{read_back}
use Rattle.commands.proofs.laws.pieces_are_read_back.Goals as goal

pub returns : goal.returns
returns c = read_back
