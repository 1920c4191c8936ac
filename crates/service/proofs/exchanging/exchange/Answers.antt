use Rattle.std.proofs.Common.{refl, inl, inr, subst, List, ℕ}
use Rattle.chain.specs.Ledgers.{Finds}
use Rattle.ledger_http.specs.Message.{IsClosing}
use Rattle.service.specs.Responds.{Responds, RefusesEarly, IsQuestionAnswered, IsLeftBy}
use Rattle.service.proofs.ConnectionRuns.{cut_off_behind, stays_ended}
use Rattle.service.proofs.exchanging.exchange.Goals as goal

pub returns-in-Whole-clause-exchanges : goal.returns-in-Whole-clause-exchanges
returns-in-Whole-clause-exchanges g c = record {
  open_before = refl;
  by = inl (record {
    message = c.in-Whole.message.items;
    moment = c.moment-moment.result;
    first = rw c.in-Whole.is at c.in_ok-message.ensures.first;
    given = c.moment-moment.ensures;
    responds = λ live.
        subst
        (λ (bytes : List ℕ).
        Responds (g.L.Ledgers.means.tenants c.args.ledgers.now)
        (g.L.Ledgers.means.tenants c.respond-reply.new.ledgers) bytes c.moment-moment.result
        c.respond-reply.result)
        c.deref.ensures.value (c.respond-reply.ensures.responds live);
    early =
        subst (λ (bytes : List ℕ). RefusesEarly bytes c.respond-reply.result)
        c.deref.ensures.value c.respond-reply.ensures.early;
    finds =
        subst
        (λ (bytes : List ℕ).
        Finds g.L.Ledgers.means (IsQuestionAnswered bytes c.respond-reply.result)
        (IsLeftBy bytes c.moment-moment.result) c.args.ledgers.now c.respond-reply.new.ledgers)
        c.deref.ensures.value c.respond-reply.ensures.finds;
    follows = c.respond-reply.ensures.follows;
    goes_on = (
      c.is_closing-goes_on.result,
      subst (λ (bytes : List ℕ). IsClosing bytes c.is_closing-goes_on.result)
          c.deref-in-Whole.ensures.value c.is_closing-goes_on.ensures,
      refl,
    );
  });
}

pub returns-in-End-clause-exchanges : goal.returns-in-End-clause-exchanges
returns-in-End-clause-exchanges g c =
    let first = rw c.in-End.is at c.in_ok-message.ensures.first in
    (λ unread known. (first unread known).0, stays_ended _ _ first, refl, refl)

pub returns-in-Refused-clause-exchanges : goal.returns-in-Refused-clause-exchanges
returns-in-Refused-clause-exchanges g c = record {
  open_before = refl;
  by = inr (inl (record {
    refusal = c.in-Refused.refusal;
    told = c.last.ensures.reply;
    early = rw c.in-Refused.is at c.in_ok-message.ensures.reading;
    cut =
        cut_off_behind _ _ _ _ _ _ _ (rw c.in-Refused.is at c.in_ok-message.ensures.first) c.last.ensures.ends;
  }));
}

pub returns-in-NoMemory-clause-exchanges : goal.returns-in-NoMemory-clause-exchanges
returns-in-NoMemory-clause-exchanges g c = record {
  open_before = refl;
  by = inr (inr (record {
    told = c.last-in-NoMemory.ensures.reply;
    cut =
        cut_off_behind _ _ _ _ _ _ _ (rw c.in-NoMemory.is at c.in_ok-message.ensures.first)
        c.last-in-NoMemory.ensures.ends;
  }));
}
