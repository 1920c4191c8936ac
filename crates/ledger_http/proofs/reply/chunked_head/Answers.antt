use Rattle.std.proofs.Common.{append_assoc}
use Rattle.std.proofs.lemmas.Result.{IfOk-weaker}
use Rattle.ledger_http.proofs.reply.chunked_head.Goals as goal

pub returns : goal.returns
returns c = IfOk-weaker c.format.result _ _ (λ head h. let e = simp append_assoc at h in simp append_assoc (rw c.name-kind.ensures at e)) c.format.ensures.ok
