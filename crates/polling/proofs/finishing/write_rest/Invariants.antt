use Rattle.service.specs.Seen.{SeenAt}
use Rattle.polling.specs.Serving.{rules}
use Rattle.polling.specs.Seating.{held_by}
use Rattle.polling.specs.Ending.{Turns}
use Rattle.polling.proofs.finishing.write_rest.Given as goal

-- What was done so far was so many turns, in which no message was replied to.
abbrev pub invariant-loop : goal.invariant-loop
invariant-loop g l =
    (moments : g.row.C.Denot)
    → Turns (SeenAt g.row.L.Denot) g.row.C.Denot g.row.P.Denot
    (rules g.L.Ledgers.means g.C.Moments.gives g.H.Steward.renews g.H.Steward.waits g.P.Peers.does)
    (held_by l.fn.ledgers moments l.fn.peers l.fn.seats) l.counter 0
    (held_by l.ledgers moments l.peers l.seats)
