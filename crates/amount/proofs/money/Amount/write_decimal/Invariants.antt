use Rattle.amount.proofs.Digits.{IsWrittenBehind}
use Rattle.amount.proofs.money.Amount.write_decimal.Given as goal

abbrev pub invariant-loop-rest : goal.invariant-loop-rest
invariant-loop-rest l = IsWrittenBehind l.start l.digits l.rest l.fn.self

abbrev pub decreases-loop-rest : goal.decreases-loop-rest
decreases-loop-rest l = l.rest
