use Rattle.std.proofs.Common.{not, ap}
use Rattle.ledger_shape.specs.Strangers.{has_own_tree}
use Rattle.ledger_shape.proofs.strangers.has_own_tree.Goals as goal

pub returns : goal.returns
unfolding has_own_tree
returns c = ap not c.has_tree.ensures
