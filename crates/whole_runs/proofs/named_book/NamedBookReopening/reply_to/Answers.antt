use Rattle.std.proofs.Common.{refl}
use Rattle.ledger_http.specs.Question.{asked_of}
use Rattle.service.specs.Courses.{Replied}
use Rattle.service.specs.Openings.{As_now}
use Rattle.whole_runs.proofs.NamedLemmas.{named_still}
use Rattle.whole_runs.proofs.StayLemmas.{responded_stay}
use Rattle.whole_runs.proofs.named_book.NamedBookReopening.reply_to.Goals as goal

pub invariant_of-self : goal.invariant_of-self
invariant_of-self c = (
  c.are_valid.ensures,
  named_still _ _ _ c.self.invariant.1
      (responded_stay _ _ c.args.bytes.now c.args.moment c.respond-reply.result
      (c.respond-reply.ensures.responds (tt, c.are_valid.ensures))),
)

pub returns-clause-replies : goal.returns-clause-replies
returns-clause-replies c =
    let early = c.respond-reply.ensures.early in
    let event = Replied (asked_of c.args.bytes.now early.head) c.args.moment c.respond-reply.result in
    rw (← c.self.view_is) (record {
      event = event;
      is = record { head = early.head; has = early.has; is = refl; whole = early.whole };
      moves = record {
        happens = λ live.
            c.responses_happen.ensures _ _ c.args.bytes.now c.args.moment c.respond-reply.result event
            (record { head = early.head; has = early.has; is = refl; whole = early.whole })
            (c.respond-reply.ensures.responds (tt, c.are_valid.ensures));
        lived = λ live. c.self.invariant;
        found = λ found keeps. As_now (invariant_of-self c) keeps;
      };
    })
