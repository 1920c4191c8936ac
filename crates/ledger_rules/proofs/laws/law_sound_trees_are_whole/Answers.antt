use Rattle.ledger_rules.proofs.WholeFiles.{sound_trees_are_whole}
use Rattle.ledger_rules.proofs.laws.law_sound_trees_are_whole.Goals as goal

pub returns : goal.returns
returns c = sound_trees_are_whole
