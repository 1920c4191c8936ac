use Rattle.std.proofs.Common.{◌≡◌, ◌≤◌, drop}
use Rattle.polling.specs.Serving.{rules}
use Rattle.polling.specs.Standing.{turns_of}
use Rattle.polling.specs.Seating.{ServesOwed, held_by}
use Rattle.polling.proofs.gathered.finish_each.Given as goal

-- The clients so far were served, with so many replies, and only the others may be owed a turn.
abbrev pub invariant-loop-number : goal.invariant-loop-number
invariant-loop-number g l = record {
  serves :
      ServesOwed (rules g.L.Ledgers.means g.C.Moments.gives g.H.Steward.renews g.H.Steward.waits g.P.Peers.does)
      (l.replies ≡ l.most) (turns_of l.numbers) (turns_of (drop l.number-index l.numbers))
      (held_by l.fn.ledgers l.fn.moments l.fn.peers l.fn.seats)
      (held_by l.ledgers l.moments l.peers l.seats) l.replies;
  few : l.replies ≤ l.most;
}
