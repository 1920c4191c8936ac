use Rattle.std.specs.Fmt.{digits}
use Rattle.ledger_shape.proofs.shape.is_balances.Goals as goal

pub returns : goal.returns
unfolding digits
returns c = c.is_exactly.ensures
