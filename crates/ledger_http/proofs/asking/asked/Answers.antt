use Rattle.std.proofs.Common.{◌+◌, ◌≤◌, ◌<◌, ap, sym, Some, None, take, drop, length, arith}
use Rattle.std.proofs.lemmas.Result.{err_from_is_err_and}
use Rattle.ledger_http.specs.declared.refusal.Refusal.TheVariants.{BadHead}
use Rattle.ledger_http.specs.Message.{message_of}
use Rattle.ledger_http.proofs.MessageLemmas.{first_message-no_end, first_message-bad_head, first_message-no_body, first_message-truncated, first_message-whole, HasHead-no_end, HasHead-none, IsAsked-refused, IsAsked-whole}
use Rattle.ledger_http.proofs.asking.asked.Goals as goal

pub returns-in_err-head_size : goal.returns-in_err-head_size
returns-in_err-head_size c =
    let exit = err_from_is_err_and c.from_residual.result c.from_residual.ensures.1 in
    let open_head = sym c.in_err-head_size.ensures.size in
    rw (exit.1, exit.2)
    (IsAsked-refused c.args.bytes.now None _ (HasHead-no_end c.args.bytes.now _ open_head)
    (first_message-no_end c.args.bytes.now _ open_head))

pub returns-in_err-head : goal.returns-in_err-head
returns-in_err-head c =
    let exit = err_from_is_err_and c.from_residual-in_err-head.result c.from_residual-in_err-head.ensures.1 in
    let ends = sym c.in_ok-head_size.ensures.size in
    let bad = c.in_err-head.ensures.bad in
    rw (exit.1, exit.2, bad.0)
    (IsAsked-refused c.args.bytes.now None BadHead
    (HasHead-none c.args.bytes.now c.in_ok-head_size.head_size ends bad.1)
    (first_message-bad_head c.args.bytes.now c.in_ok-head_size.head_size ends))

pub returns-in_err-body_size : goal.returns-in_err-body_size
returns-in_err-body_size c =
    let exit = err_from_is_err_and c.from_residual-in_err-body_size.result c.from_residual-in_err-body_size.ensures.1 in
    let n = c.in_ok-head_size.head_size in
    let ends = sym c.in_ok-head_size.ensures.size in
    let good = c.in_ok-head.ensures.good in
    rw (exit.1, exit.2)
    (IsAsked-refused c.args.bytes.now (Some good.0) _ (n, ends, good.1)
    (first_message-no_body c.args.bytes.now good.0 n _ ends (sym (c.in_err-body_size.ensures.size good.0 good.2))))

pub returns-then-bytes-head_size : goal.returns-then-bytes-head_size
returns-then-bytes-head_size c =
    let n = c.in_ok-head_size.head_size in
    let k = c.in_ok-body_size.body_size in
    let ends = sym c.in_ok-head_size.ensures.size in
    let good = c.in_ok-head.ensures.good in
    let few : length c.args.bytes.now < n + k = omega (arith, c.in_ok-head_size.ensures.within) in
    IsAsked-refused c.args.bytes.now (Some good.0) _ (n, ends, good.1)
    (first_message-truncated c.args.bytes.now good.0 n k ends
    (sym (c.in_ok-body_size.ensures.size good.0 good.2)) few)

pub returns : goal.returns
returns c =
    let n = c.in_ok-head_size.head_size in
    let k = c.in_ok-body_size.body_size in
    let ends = sym c.in_ok-head_size.ensures.size in
    let good = c.in_ok-head.ensures.good in
    let enough : n + k ≤ length c.args.bytes.now = omega (arith, c.in_ok-head_size.ensures.within) in
    let first = message_of c.args.bytes.now good.0 n k in
    IsAsked-whole c.args.bytes.now good.0 first _ (n, ends, good.1)
    (first_message-whole c.args.bytes.now good.0 n k ends
    (sym (c.in_ok-body_size.ensures.size good.0 good.2)) enough)
    (c.question.ensures.told first good.2 (ap (λ m. take m (drop n c.args.bytes.now)) (omega arith)))
    (c.question.ensures.page first good.2)
    (c.question.ensures.health first good.2)
