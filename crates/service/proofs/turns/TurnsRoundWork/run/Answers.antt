use Rattle.std.proofs.Common.{ℕ, ◌+◌, ap, sym, ◌∙◌, arith}
use Rattle.service.proofs.TurnLemmas.{no_turns, turn_on}
use Rattle.service.proofs.turns.TurnsRoundWork.run.Goals as goal

pub loop-message-init : goal.loop-message-init
loop-message-init g c = record {
  turns = λ live. rw c.in_ok-replies.ensures.items (no_turns _);
  count = c.in_ok-replies.ensures.len;
  room = c.in_ok-replies.ensures.exact;
  follows = g.met.L.Ledgers.stays c.args.ledgers.now;
}

pub loop-message-preserved : goal.loop-message-preserved
loop-message-preserved g c = record {
  turns = λ live.
      turn_on _ _ _ _ _ _ _ _ _ (omega arith) c.message-item.is c.push_reserved.ensures.items
      (c.loop-message.invariant.turns
      (g.met.L.Ledgers.lived _ _ c.respond-reply.ensures.follows live))
      (c.respond-reply.ensures.responds live) (sym c.is_unavailable.ensures ∙ c.if-is_unavailable.false);
  count = c.push_reserved.ensures.len ∙ ap (λ (n : ℕ). n + 1) c.loop-message.invariant.count;
  room = c.push_reserved.ensures.capacity ∙ c.loop-message.invariant.room;
  follows = g.met.L.Ledgers.then _ _ _ c.loop-message.invariant.follows
      c.respond-reply.ensures.follows;
}
