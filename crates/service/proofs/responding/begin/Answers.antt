use Rattle.std.proofs.Common.{◌≡◌, IfSome, Option, Result, Err, IsOk, refl, ap, sym, subst, ◌∙◌}
use Rattle.ledger_http.specs.declared.early.Early.{Early}
use Rattle.ledger_http.specs.Question.{Question, question_of}
use Rattle.chain.specs.Ledgers.{Finds}
use Rattle.ledger_http.specs.declared.reply.Reply.{Reply}
use Rattle.service.specs.Replies.{unavailable}
use Rattle.service.specs.Responds.{IsQuestionAnswered, IsLeftBy, IsLeftByAsked, IsLeftSame, IsQuestion, RefusesEarly, Responds, TellsFailure, TellsHealth, TellsPage}
use Rattle.service.specs.Begun.{IsLeftOf, reply_of}
use Rattle.parts.specs.declared.rest.Rest.{Rest}
use Rattle.service.proofs.BegunLemmas.{available_where_left, done_by, so_whole, where_left}
use Rattle.service.proofs.FindingLemmas.{finds_on, finds_same}
use Rattle.service.specs.Replies.{told_early}
use Rattle.service.proofs.Responses.{responds_to, early_of, no_page, no_health}
use Rattle.service.proofs.Responses.{responds_told, telling_told, page_telling}
use Rattle.service.proofs.Responses.{health_telling, failure_telling}
use Rattle.service.proofs.responding.begin.Goals as goal

pub returns-in-Ok-clause-replies : goal.returns-in-Ok-clause-replies
returns-in-Ok-clause-replies g c = record {
  responds = λ live.
      let a = c.in-Ok.ensures in
      responds_to _ _ _ a.head (question_of c.in-Ok.asked) _ _ a.has a.told
      (c.answer.ensures.serves live);
  early =
      let a = c.in-Ok.ensures in
      early_of _ a.head (question_of c.in-Ok.asked) _ a.has a.told;
  page =
      let a = c.in-Ok.ensures in
      no_page _ a.head (question_of c.in-Ok.asked) _ a.has a.told;
  health =
      let a = c.in-Ok.ensures in
      no_health _ a.head (question_of c.in-Ok.asked) _ a.has a.told _;
  failed =
      let a = c.in-Ok.ensures in record {
        head = a.head;
        has = a.has;
        failure = λ failed ok. so_whole (λ (r : Reply). r ≡ unavailable) _ unavailable _ (c.answer.ensures.failed failed) refl;
      };
  finds =
      let a = c.in-Ok.ensures in
      finds_on g.L.Ledgers.means _ _ _ _ _ _ (λ answered. answered.available)
      (λ was now left. (
        a.head,
        a.has,
        subst (λ (asked : Result Question Early). IsLeftByAsked asked c.args.moment was now)
            (sym a.told) left,
      ))
      c.answer.ensures.finds;
  follows = c.answer.ensures.follows;
}

pub returns-in-Err-clause-replies : goal.returns-in-Err-clause-replies
returns-in-Err-clause-replies g c = record {
  responds = λ live.
      let a = c.in-Err.ensures in
      so_whole (λ (r : Reply). Responds (g.L.Ledgers.means.tenants c.args.ledgers.now) (g.L.Ledgers.means.tenants c.args.ledgers.now) c.args.bytes.now c.args.moment r) _ _ _ c.whole.ensures (
      rw c.told_early.ensures
      (responds_told _ _ _ a.head c.in-Err.early _ a.has a.told (λ is. a.unavailable (ap Err is))));
  early =
      let a = c.in-Err.ensures in
      so_whole (λ (r : Reply). RefusesEarly c.args.bytes.now r) _ _ _ c.whole.ensures (
      rw c.told_early.ensures
      (telling_told _ _ a.head c.in-Err.early a.has a.told (λ is. a.unavailable (ap Err is))));
  page =
      let a = c.in-Err.ensures in
      so_whole (λ (r : Reply). TellsPage c.args.bytes.now r) _ _ _ c.whole.ensures (
      rw c.told_early.ensures (page_telling _ _ a.head c.in-Err.early _ a.has refl a.page));
  health =
      let a = c.in-Err.ensures in
      so_whole (λ (r : Reply). TellsHealth (g.L.Ledgers.means.has_failed c.args.ledgers.now) c.args.bytes.now r) _ _ _ c.whole.ensures (
      rw c.told_early.ensures (health_telling _ _ a.head c.in-Err.early _ a.has refl a.health));
  failed =
      let a = c.in-Err.ensures in
      so_whole (λ (r : Reply). TellsFailure (g.L.Ledgers.means.has_failed c.args.ledgers.now) c.args.bytes.now r) _ _ _ c.whole.ensures (
      rw c.told_early.ensures (failure_telling _ _ a.head c.in-Err.early a.has a.told));
  finds =
      let a = c.in-Err.ensures in
      so_whole (λ (r : Reply). Finds g.L.Ledgers.means (IsQuestionAnswered c.args.bytes.now r) (IsLeftBy c.args.bytes.now c.args.moment) c.args.ledgers.now c.args.ledgers.now) _ _ _ c.whole.ensures (
      finds_same g.L.Ledgers.means _ _ _
      (λ answered.
      let asks =
      subst (λ (asked : Result Question Early). IsOk asked)
      (a.told (λ is. answered.available (c.told_early.ensures ∙ ap (told_early _) is))) (answered.asks a.head a.has) in
      cc));
  follows = g.met.L.Ledgers.stays c.args.ledgers.now;
}

pub returns-in-Ok-clause-asks : goal.returns-in-Ok-clause-asks
returns-in-Ok-clause-asks g c =
    let a = c.in-Ok.ensures in
    where_left c.answer.result.rest (λ r. IsQuestion c.args.bytes.now)
    (λ r is. record { head = a.head; has = a.has; question = question_of c.in-Ok.asked; is = a.told })

pub returns-in-Ok-clause-left : goal.returns-in-Ok-clause-left
returns-in-Ok-clause-left g c =
    let a = c.in-Ok.ensures in
    let old = g.L.Ledgers.means.tenants c.args.ledgers.now in
    let new = g.L.Ledgers.means.tenants c.answer.new.ledgers in
    where_left c.answer.result.rest (λ r. g.L.Ledgers.means.is_live c.answer.new.ledgers → IsLeftSame c.args.bytes.now c.args.moment old new r)
    (λ r is live. (
      (
        a.head,
        a.has,
        subst (λ (asked : Result Question Early). IsLeftByAsked asked c.args.moment old new) (sym a.told)
            (done_by old new _ _ c.args.moment (reply_of new c.answer.result) (c.answer.ensures.serves live)
            (available_where_left new c.answer.result r is)),
      ),
      subst (λ (rest : Option Rest). IfSome rest (λ r. g.L.Ledgers.means.is_live c.answer.new.ledgers → IsLeftOf old new r)) is
          c.answer.ensures.left live,
    ))
