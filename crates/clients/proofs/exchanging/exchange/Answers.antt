use Rattle.std.proofs.Common.{refl}
use Rattle.service.specs.Begun.{reply_of}
use Rattle.clients.specs.Answering.{IsAllAnswered, IsWanting}
use Rattle.clients.proofs.ExchangeLemmas.{answers_whole, answers_refused, held_so, stays_unmoved}
use Rattle.clients.proofs.exchanging.exchange.Goals as goal

pub returns-in-Whole : goal.returns-in-Whole
returns-in-Whole g c = record {
  answers =
      let whole =
      answers_whole g.L.Ledgers.means g.C.Moments.gives _ _ _ _ c.args.inbox.now _ _ _ c.in-Whole.size _ _
      (reply_of (g.L.Ledgers.means.tenants c.begin-begun.new.ledgers) c.begin-begun.result)
      (c.is_closing-goes_on.result, c.is_closing-goes_on.ensures, refl)
      c.later_bytes_change_nothing.ensures.begins c.next.ensures.same
      c.take.ensures c.front-front.ensures (rw c.in-Whole.is at c.next.ensures.next) c.moment-moment.ensures
      c.begin-begun.ensures.replies.responds c.begin-begun.ensures.replies.early c.begin-begun.ensures.replies.finds
      c.begin-begun.ensures.replies.follows in (
        whole.0,
        whole.1,
        held_so g.L.Ledgers.means c.front-front.result.now c.moment-moment.result
            (g.L.Ledgers.means.tenants c.args.ledgers.now) c.begin-begun.new.ledgers c.begin-begun.result.rest c.begin-begun.ensures.left,
      );
  follows = c.begin-begun.ensures.replies.follows;
}

pub returns-in-Refused : goal.returns-in-Refused
returns-in-Refused g c = record {
  answers =
      answers_refused g.L.Ledgers.means g.C.Moments.gives c.args.ledgers.now c.args.moments.now
      c.args.inbox.now _ c.in-Refused.refusal c.later_bytes_change_nothing.ensures.refused
      c.next.ensures.same (rw c.in-Refused.is at c.next.ensures.next);
  follows = g.met.L.Ledgers.stays c.args.ledgers.now;
}

pub returns-in-Wanting : goal.returns-in-Wanting
returns-in-Wanting g c =
    stays_unmoved g.L.Ledgers.means IsWanting c.args.ledgers.now c.args.moments.now _ _
    (g.met.L.Ledgers.stays c.args.ledgers.now) c.next.ensures.same (rw c.in-Wanting.is at c.next.ensures.next)

pub returns-in-End : goal.returns-in-End
returns-in-End g c =
    stays_unmoved g.L.Ledgers.means IsAllAnswered c.args.ledgers.now c.args.moments.now _ _
    (g.met.L.Ledgers.stays c.args.ledgers.now) c.next.ensures.same (rw c.in-End.is at c.next.ensures.next)
