use Rattle.std.proofs.Common.{arith, rules}
use Rattle.file_sums.proofs.Numbers.{eight_and_rest}
use Rattle.file_sums.proofs.bytes.first_u64.Goals as goal

pub returns : goal.returns
returns c =
    let found = c.in_ok-first.ensures.cases in
    eight_and_rest _ c.in_ok-first.first.now _ _ (search rules) (λ i. omega (arith, c.type_inv.bytes i)) c.from_le_bytes.ensures found.0 found.1
