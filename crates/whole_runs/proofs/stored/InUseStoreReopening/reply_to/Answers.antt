use Rattle.std.proofs.Common.{refl}
use Rattle.service.specs.Courses.{Replied}
use Rattle.ledger_http.specs.Question.{asked_of}
use Rattle.whole_runs.proofs.FoundNames.{names_left}
use Rattle.whole_runs.proofs.stored.InUseStoreReopening.reply_to.Goals as goal

pub returns-clause-replies : goal.returns-clause-replies
returns-clause-replies g c =
    let early = c.respond-reply.ensures.early in
    record {
      event = Replied (asked_of c.args.bytes.now early.head) c.args.moment c.respond-reply.result;
      is = record { head = early.head; has = early.has; is = refl; whole = early.whole };
      moves =
          c.responses_move.ensures c.args.self.now c.respond-reply.new.ledgers c.args.bytes.now
          c.args.moment c.respond-reply.result early c.respond-reply.ensures.responds
          c.respond-reply.ensures.finds c.respond-reply.ensures.follows c.is_settled.ensures;
    }

pub returns-clause-named : goal.returns-clause-named
returns-clause-named g c =
    names_left c.args.self.now c.respond-reply.new.ledgers c.respond-reply.ensures.follows.0

pub returns-clause-failed : goal.returns-clause-failed
returns-clause-failed g c shut = c.respond-reply.ensures.follows.0.shut shut
