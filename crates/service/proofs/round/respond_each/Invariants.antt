use Rattle.std.proofs.Common.{◌≡◌, ◌≤◌, take, length, vec_len, vec_capacity}
use Rattle.service.specs.Openings.{run_meaning}
use Rattle.service.specs.Turns.{MovesEach}
use Rattle.service.proofs.round.respond_each.Given as goal

-- The messages so far are answered, and there is room for the replies to all.
abbrev pub invariant-loop-message : goal.invariant-loop-message
invariant-loop-message g l = record {
  moves :
      MovesEach (run_meaning g.L.Ledgers.means) l.fn.ledgers (take l.message-index l.messages)
      l.replies.items l.ledgers;
  count : vec_len l.replies ≡ l.message-index;
  room : length l.messages ≤ vec_capacity l.replies;
  follows : g.L.Ledgers.means.follows l.fn.ledgers l.ledgers;
}
