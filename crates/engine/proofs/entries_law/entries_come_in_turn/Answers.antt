use Rattle.engine.proofs.EntriesInTurn.{come_in_turn}
use Rattle.engine.proofs.entries_law.entries_come_in_turn.Goals as goal

pub returns : goal.returns
returns c = come_in_turn
