use Rattle.std.proofs.Common.{length}
use Rattle.std.specs.Prelude.{⊤}
use Rattle.polling.specs.Serving.{rules}
use Rattle.polling.specs.Ring.{numbers_of}
use Rattle.polling.specs.Standing.{turns_of}
use Rattle.polling.specs.Seating.{ServesOwed, held_by}
use Rattle.polling.proofs.gathered.end_turns.Given as goal

-- Clients that wait no longer keep their places.
abbrev pub invariant-loop-alloc : goal.invariant-loop-alloc
invariant-loop-alloc g l =
    ServesOwed (rules g.L.Ledgers.means g.C.Moments.gives g.H.Steward.renews g.H.Steward.waits g.P.Peers.does)
    ⊤ (turns_of (numbers_of l.fn.gathered.ring.waiting))
    (turns_of (numbers_of l.gathered.ring.waiting))
    (held_by l.fn.ledgers l.fn.moments l.fn.peers l.fn.seats)
    (held_by l.ledgers l.moments l.peers l.seats) 0

abbrev pub decreases-loop-alloc : goal.decreases-loop-alloc
decreases-loop-alloc g l = length l.gathered.ring.waiting
