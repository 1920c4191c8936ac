use Rattle.std.proofs.Common.{◌∙◌, ap, inr, List, ℕ, take}
use Rattle.std.specs.Int.{w128, from_be_bytes}
use Rattle.ledger_http.specs.Question.{question_of}
use Rattle.polling.proofs.tenant.tenant_of.Goals as goal

pub returns-in-Some : goal.returns-in-Some
returns-in-Some c = inr (
  c.in-Ok.ensures.head,
  c.in-Ok.ensures.has,
  (
    question_of c.in-Ok.asked,
    c.in-Ok.ensures.told,
    c.from_be_bytes.ensures
        ∙ ap (λ (bytes : List ℕ). from_be_bytes w128 bytes)
        (c.in-Some.ensures.cases.same ∙ ap (λ (bytes : List ℕ). take 16 bytes) c.digest.ensures),
  ),
)
