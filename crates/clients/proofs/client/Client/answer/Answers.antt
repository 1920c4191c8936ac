use Rattle.std.proofs.Common.{append-nil, ◌∙◌}
use Rattle.service.specs.Begun.{reply_of}
use Rattle.clients.specs.Answering.{IsWanting, IsAllAnswered}
use Rattle.clients.proofs.ExchangeLemmas.{has_replied, is_unmoved, put_whole}
use Rattle.clients.proofs.client.Client.answer.Goals as goal

pub returns-in-Answered : goal.returns-in-Answered
returns-in-Answered g c = record {
  answers =
      let exchanged = rw c.in-Answered.is at c.exchange.ensures.answers in
      let tenants = g.L.Ledgers.means.tenants c.exchange.new.ledgers in
      let reply = reply_of tenants c.in-Answered.begun in (
        reply,
        has_replied g.L.Ledgers.means g.C.Moments.gives _ _ _ _ c.args.self.now _ _
            c.self.inside.outbox _ c.self.inside.rest c.in-Answered.begun.rest c.self.inside.goes_on reply c.in-Answered.goes_on
            c.self.view_is (put_whole tenants c.in-Answered.begun _ c.put.ensures) exchanged.2
            (exchanged.0, exchanged.1),
      );
  follows = c.exchange.ensures.follows;
}

pub returns-in-Refused : goal.returns-in-Refused
returns-in-Refused g c = record {
  answers = (
    _,
    has_replied g.L.Ledgers.means g.C.Moments.gives _ _ _ _ c.args.self.now _ _ c.self.inside.outbox _
        c.self.inside.rest _ c.self.inside.goes_on _ _ c.self.view_is (append-nil _ ∙ c.put-in-Refused.ensures) tt
        (rw c.in-Refused.is at c.exchange.ensures.answers),
  );
  follows = c.exchange.ensures.follows;
}

pub returns-in-Wanting : goal.returns-in-Wanting
returns-in-Wanting g c =
    is_unmoved g.L.Ledgers.means IsWanting _ _ _ _ c.args.self.now _ _ c.self.inside.outbox c.self.inside.rest
    c.self.inside.goes_on c.self.view_is (rw c.in-Wanting.is at c.exchange.ensures)

pub returns-in-Over : goal.returns-in-Over
returns-in-Over g c =
    is_unmoved g.L.Ledgers.means IsAllAnswered _ _ _ _ c.args.self.now _ _ c.self.inside.outbox c.self.inside.rest
    c.self.inside.goes_on c.self.view_is (rw c.in-Over.is at c.exchange.ensures)
