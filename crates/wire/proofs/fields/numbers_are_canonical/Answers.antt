use Rattle.wire.proofs.Numbers.{number_below_is, decimal_of-number_below}
use Rattle.wire.proofs.fields.numbers_are_canonical.Goals as goal

pub returns : goal.returns
returns c = λ bound n text within small. (decimal_of-number_below bound n text, number_below_is bound n text within small)
