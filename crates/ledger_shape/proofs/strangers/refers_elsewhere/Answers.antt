use Rattle.std.proofs.Common.{not, ap}
use Rattle.ledger_shape.specs.Strangers.{refers_elsewhere}
use Rattle.ledger_shape.proofs.strangers.refers_elsewhere.Goals as goal

pub returns : goal.returns
unfolding refers_elsewhere
returns c = ap not (rw c.as_slice.ensures at c.has_name.ensures)
