use Rattle.std.proofs.Common.{◌≡◌, ◌≤◌, ◌<◌, ◌+◌, List}
use Rattle.clients.specs.Deeds.{Act}
use Rattle.service.specs.Seen.{Whole}
use Rattle.polling.specs.Laws.{empty_hall}
use Rattle.polling.specs.Seating.{HoldsHall, held_by, replies_in}
use Rattle.polling.specs.Serving.{Hall, Proceeds, rules, tellings}
use Rattle.commands.proofs.serving.serve_clients.Given as goal

-- Clients were served in so many rounds, and the replies that are left are to come.
abbrev pub invariant-loop : goal.invariant-loop
invariant-loop g l = record {
  deeds : List Act;
  last : Hall _ _ _;
  served :
      Proceeds _ _ _
      (rules g.L.Ledgers.means g.C.Moments.gives g.H.Steward.renews g.H.Steward.waits g.P.Peers.does)
      (empty_hall (Whole l.fn.ledgers) l.fn.moments l.fn.peers) deeds last;
  keeps : HoldsHall (held_by l.ledgers l.moments l.peers l.seats) last;
  left : replies_in deeds + l.left ≡ l.most;
  wanting : 0 < l.counter → 0 < l.left;
  told : l.counter ≤ tellings served;
}
