use Rattle.std.proofs.Common.{◌≡◌, take, length, vec_len, vec_capacity}
use Rattle.service.specs.Turns.{TakeTurns}
use Rattle.service.proofs.turns.TurnsRoundWork.run.Given as goal

-- The messages so far have had their turns, and there is room for the replies to all.
abbrev pub invariant-loop-message : goal.invariant-loop-message
invariant-loop-message g l = record {
  turns :
      g.L.Ledgers.means.is_live l.ledgers
      → TakeTurns (take l.message-index l.self.messages.now) (g.L.Ledgers.means.tenants l.fn.ledgers)
      l.replies.items (g.L.Ledgers.means.tenants l.ledgers);
  count : vec_len l.replies ≡ l.message-index;
  room : vec_capacity l.replies ≡ length l.self.messages.now;
  follows : g.L.Ledgers.means.follows l.fn.ledgers l.ledgers;
}
