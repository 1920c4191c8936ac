use Rattle.std.proofs.Common.{ℕ, ◌+◌, ap, ◌∙◌, arith}
use Rattle.service.specs.Openings.{run_meaning}
use Rattle.service.proofs.TurnLemmas.{none_answered, each_on}
use Rattle.service.proofs.round.respond_each.Goals as goal

pub loop-message-init : goal.loop-message-init
loop-message-init g c = record {
  moves = rw c.requires.none (none_answered (run_meaning g.L.Ledgers.means) c.args.ledgers.now);
  count = c.requires.empty;
  room = c.requires.room;
  follows = g.met.L.Ledgers.stays c.args.ledgers.now;
}

pub loop-message-preserved : goal.loop-message-preserved
loop-message-preserved g c = record {
  moves =
      each_on (run_meaning g.L.Ledgers.means) _ _ _ _ _ _ _ c.message-item.result c.respond-reply.result (omega arith)
      c.message-item.is c.push_reserved.ensures.items c.respond-reply.ensures.early
      c.loop-message.invariant.moves c.respond-reply.ensures.responds
      (c.responses_move.ensures _ _ _ _ _ c.respond-reply.ensures.early
      c.respond-reply.ensures.responds c.respond-reply.ensures.finds
      c.respond-reply.ensures.follows c.is_settled.ensures);
  count = c.push_reserved.ensures.len ∙ ap (λ (n : ℕ). n + 1) c.loop-message.invariant.count;
  room = omega (arith, c.push_reserved.ensures.capacity, c.loop-message.invariant.room);
  follows = g.met.L.Ledgers.then _ _ _ c.loop-message.invariant.follows
      c.respond-reply.ensures.follows;
}
