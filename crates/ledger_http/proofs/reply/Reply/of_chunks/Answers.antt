use Rattle.std.proofs.Common.{◌∙◌, ◌++◌, ap}
use Rattle.ledger_http.specs.Chunks.{chunked_text}
use Rattle.ledger_http.proofs.reply.Reply.of_chunks.Goals as goal

pub returns : goal.returns
unfolding chunked_text
returns c =
    c.into.ensures ∙ c.in_ok-extend_from_slice.ensures.items
    ∙ ap (λ front. front ++ c.args.chunks.now) (ap (λ v. v.items) c.into_bytes-bytes.ensures.value ∙ c.in_ok-chunked_head.ensures)
