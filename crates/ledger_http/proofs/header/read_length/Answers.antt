use Rattle.std.proofs.Common.{arith}
use Rattle.std.proofs.lemmas.Int.Digits.{digits_value_more}
use Rattle.ledger_http.proofs.header.read_length.Goals as goal

pub loop-digit-preserved : goal.loop-digit-preserved
loop-digit-preserved c =
    let more = digits_value_more 10 c.args.text.now c.loop-digit.digit-index c.loop-digit-test.true in
    let capped = c.loop-digit.invariant in
    let step = c.with_digit-length.ensures in
    omega arith
