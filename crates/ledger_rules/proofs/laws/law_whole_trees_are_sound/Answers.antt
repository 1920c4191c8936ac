use Rattle.ledger_rules.proofs.WholeFiles.{whole_trees_are_sound}
use Rattle.ledger_rules.proofs.laws.law_whole_trees_are_sound.Goals as goal

pub returns : goal.returns
returns c = whole_trees_are_sound
