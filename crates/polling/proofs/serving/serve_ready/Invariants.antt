use Rattle.std.proofs.Common.{◌≡◌, ◌≤◌, []}
use Rattle.service.specs.Seen.{SeenAt}
use Rattle.polling.specs.Serving.{rules}
use Rattle.polling.specs.Ring.{numbers_of}
use Rattle.polling.specs.Standing.{turns_of}
use Rattle.polling.specs.Seating.{held_by, ServesOwed}
use Rattle.polling.specs.Ending.{Turns}
use Rattle.polling.proofs.serving.serve_ready.Given as goal

-- What was done so far was so many turns, and only who is gathered is owed anything yet.
abbrev pub invariant-loop : goal.invariant-loop
invariant-loop g l = record {
  turns :
      Turns (SeenAt g.row.L.Denot) g.row.C.Denot g.row.P.Denot
      (rules g.L.Ledgers.means g.C.Moments.gives g.H.Steward.renews g.H.Steward.waits g.P.Peers.does)
      (held_by l.fn.ledgers l.fn.moments l.fn.peers l.fn.seats) l.counter l.replies
      (held_by l.ledgers l.moments l.peers l.seats);
  served :
      ServesOwed (rules g.L.Ledgers.means g.C.Moments.gives g.H.Steward.renews g.H.Steward.waits g.P.Peers.does)
      (l.replies ≡ l.most) [] (turns_of (numbers_of l.gathered.ring.waiting))
      (held_by l.fn.ledgers l.fn.moments l.fn.peers l.fn.seats)
      (held_by l.ledgers l.moments l.peers l.seats) l.replies;
  all : l.replies ≡ l.most → l.gathered.ring.waiting ≡ [];
  few : l.replies ≤ l.most;
}
