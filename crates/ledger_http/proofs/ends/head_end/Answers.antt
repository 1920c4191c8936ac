use Rattle.std.proofs.Common.{sym, ◌+◌, arith, rules}
use Rattle.ledger_http.proofs.EndLemmas.{end_of_head-first, end_of_head-none}
use Rattle.ledger_http.proofs.ends.head_end.Goals as goal

pub returns-then-ends_head-clause-end : goal.returns-then-ends_head-clause-end
returns-then-ends_head-clause-end c =
    sym (end_of_head-first c.args.bytes.now (c.loop-end.end + 1) (omega arith) (search rules)
    (λ j below. c.loop-end.invariant j (omega arith)))

pub returns-clause-end : goal.returns-clause-end
returns-clause-end c =
    sym (end_of_head-none c.args.bytes.now (λ j within. c.loop-end.invariant j (omega arith)))
