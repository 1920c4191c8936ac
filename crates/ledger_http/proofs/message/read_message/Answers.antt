use Rattle.std.proofs.Common.{◌≡◌, ℕ, List, subst, drop, ap, ◌∙◌, Some}
use Rattle.std.proofs.lemmas.Result.{IfOk-weaker, on_err_weaker}
use Rattle.ledger_http.specs.First.{IsHeadRefused, IsRead}
use Rattle.ledger_http.specs.Reading.{IsHeadEnd, FallsShort}
use Rattle.ledger_http.specs.Head.{IsGoodHead}
use Rattle.ledger_http.proofs.FirstLemmas.{IsRefused-no_end, IsRefused-head, IsFirst-read}
use Rattle.ledger_http.proofs.RefusalLemmas.{left_no_end, left_head, IsHeadRefused-reading}
use Rattle.ledger_http.proofs.BrokenLemmas.{broken_in_body}
use Rattle.ledger_http.proofs.message.read_message.Goals as goal

pub returns-in-Refused-clause-first : goal.returns-in-Refused-clause-first
returns-in-Refused-clause-first g c unread known =
    let read = subst (λ end. IsHeadEnd unread (g.R.Source.left c.read_head.new.reader) c.read_head.new.head end)
    c.in-Refused.is (c.in_ok-size.ensures.bytes unread known) in (
      IsRefused-no_end unread c.in-Refused.refusal read.0 read.1,
      read.2 ∙ ap (λ xs. Some xs) (left_no_end unread c.in-Refused.refusal read.1),
    )

pub returns-in-Err-clause-first : goal.returns-in-Err-clause-first
returns-in-Err-clause-first g c unread known =
    let read = subst (λ end. IsHeadEnd unread (g.R.Source.left c.read_head.new.reader) c.read_head.new.head end)
    c.in-At.is (c.in_ok-size.ensures.bytes unread known) in
    let refused = subst (λ head. IsHeadRefused head c.in-Err.refusal) read.2 c.in-Err.ensures.bad in (
      IsRefused-head unread c.in-At.size c.in-Err.refusal read.0 refused,
      read.3 ∙ ap (λ xs. Some xs) (left_head unread c.in-At.size c.in-Err.refusal read.0 refused),
    )

pub returns-clause-first : goal.returns-clause-first
returns-clause-first g c =
    IfOk-weaker c.read_body.result _ _
    (λ message rest unread known.
    let read = subst (λ end. IsHeadEnd unread (g.R.Source.left c.read_head.new.reader) c.read_head.new.head end)
    c.in-At.is (c.in_ok-size.ensures.bytes unread known) in
    let good = c.in-Ok.ensures.good in
    IsFirst-read unread good.0 c.in-At.size c.in-Ok.body_size _ message read.0 read.1
    (subst (λ head. IsGoodHead head good.0) read.2 good.1) good.2
    (subst (λ head. IsRead head (drop c.in-At.size unread) c.in-Ok.body_size (g.R.Source.left c.read_body.new.reader) message)
    read.2 (rest (drop c.in-At.size unread) read.3)))
    c.read_body.ensures.read

pub returns-in-Err-clause-reading : goal.returns-in-Err-clause-reading
returns-in-Err-clause-reading g c = IsHeadRefused-reading _ _ c.in-Err.ensures.bad

pub returns-clause-broken : goal.returns-clause-broken
returns-clause-broken g c =
    on_err_weaker c.read_body.result
    (λ (short : (bytes : List ℕ) → g.R.Source.left c.read_head.new.reader ≡ Some bytes
    → FallsShort bytes (g.R.Source.left c.read_body.new.reader) c.in-Ok.body_size) unread known.
    let read = subst (λ end. IsHeadEnd unread (g.R.Source.left c.read_head.new.reader) c.read_head.new.head end)
    c.in-At.is (c.in_ok-size.ensures.bytes unread known) in
    let good = c.in-Ok.ensures.good in
    broken_in_body unread good.0 c.in-At.size c.in-Ok.body_size (g.R.Source.left c.read_body.new.reader) read.0 read.1
    (subst (λ head. IsGoodHead head good.0) read.2 good.1) good.2 c.in-Ok.ensures.few
    (short (drop c.in-At.size unread) read.3))
    c.read_body.ensures.broken
