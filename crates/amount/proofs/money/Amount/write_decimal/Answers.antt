use Rattle.std.proofs.Common.{rules}
use Rattle.amount.proofs.Digits.{none_written, has_room, next_digit, all_digits}
use Rattle.amount.proofs.money.Amount.write_decimal.Goals as goal

pub loop-rest-init : goal.loop-rest-init
loop-rest-init c = none_written _ _ _ c.value-rest.ensures.value c.told-digits

pub overflow_sub-start-in-loop-rest : goal.overflow_sub-start-in-loop-rest
overflow_sub-start-in-loop-rest c = has_room _ _ _ _ c.loop-rest.invariant c.value-rest.ensures.fits (search rules) c.loop-rest-test.true

pub loop-rest-preserved : goal.loop-rest-preserved
loop-rest-preserved c = next_digit _ _ _ _ c.loop-rest.invariant c.value-rest.ensures.fits (search rules) c.loop-rest-test.true

pub returns-clause-text : goal.returns-clause-text
returns-clause-text c = all_digits _ _ _ _ _ c.loop-rest.invariant (search rules) c.loop-rest-test.false c.copy_within.ensures.after
