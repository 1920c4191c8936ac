use Rattle.std.proofs.Common.{◌≡◌, drop}
use Rattle.polling.specs.Seating.{seats_in}
use Rattle.polling.proofs.LostLemmas.{AreToldSoFar}
use Rattle.polling.proofs.putting.tell_all.Given as goal

-- The clients so far were told.
abbrev pub invariant-loop-member : goal.invariant-loop-member
invariant-loop-member g l = record {
  told :
      AreToldSoFar g.L.Ledgers.means g.C.Moments.gives g.P.Peers.does l.round.messages.items
      (seats_in l.fn.clients) (drop l.member-index l.round.members.items) (seats_in l.clients)
      l.count;
  count : l.count ≡ l.member-index;
}
