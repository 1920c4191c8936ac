use Rattle.std.proofs.Common.{◌∙◌, ◌++◌, ap}
use Rattle.ledger_http.proofs.reply.with_status.Goals as goal

pub returns : goal.returns
returns c =
    c.into.ensures ∙ c.in_ok-extend_from_slice.ensures.items
    ∙ ap (λ front. front ++ c.args.body.now) (ap (λ v. v.items) c.into_bytes-bytes.ensures.value ∙ c.in_ok-head.ensures)
