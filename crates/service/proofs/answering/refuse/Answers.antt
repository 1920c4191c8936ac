use Rattle.std.proofs.Common.{refl, sym, ap, ◌∙◌, rules}
use Rattle.ledger_http.specs.Question.{question_of}
use Rattle.wire.specs.Asked.{refused_as, told_if_refused}
use Rattle.service.proofs.FindingLemmas.{finds_on}
use Rattle.service.proofs.ServedReads.{serves_refused, serves_unknown, serves_unavailable}
use Rattle.service.proofs.answering.refuse.Goals as goal

pub returns-in_default : goal.returns-in_default
returns-in_default g c moment means = record {
  serves = λ live. serves_unavailable _ _ _ _ _ (c.knows.ensures.same live);
  failed = λ failed. refl;
  finds =
      finds_on g.L.Ledgers.means _ _ _ _ _ _ (λ available. absurd (available refl))
      (λ was now nowhere. absurd nowhere) c.knows.ensures.finds;
  follows = c.knows.ensures.follows;
}

pub returns-then-known : goal.returns-then-known
returns-then-known g c moment means =
    let told = told_if_refused (refused_as (question_of c.args.asked.now)) in
    let reply = c.refused_reply.ensures in record {
      serves = λ live.
          serves_refused _ _ _ _ _ (refused_as (question_of c.args.asked.now) c.args.refusal) _
          (sym (c.in-Ok.ensures.value live) ∙ c.if-known.true) (c.knows.ensures.same live)
          (λ available. (ap told (means (λ is. available (reply.unavailable is))), reply.text available));
      failed = search rules;
      finds =
          finds_on g.L.Ledgers.means _ _ _ _ _ _ (λ available. refl) (λ was now nowhere. absurd nowhere)
          c.in-Ok.ensures.finds;
      follows = c.knows.ensures.follows;
    }

pub returns-else-known : goal.returns-else-known
returns-else-known g c moment means = record {
  serves = λ live.
      serves_unknown _ _ _ _ _ (sym (c.in-Ok.ensures.value live) ∙ c.if-known.false)
      (c.knows.ensures.same live);
  failed = search rules;
  finds =
      finds_on g.L.Ledgers.means _ _ _ _ _ _ (λ available. refl) (λ was now nowhere. absurd nowhere)
      c.in-Ok.ensures.finds;
  follows = c.knows.ensures.follows;
}
