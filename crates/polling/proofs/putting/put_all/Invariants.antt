use Rattle.std.proofs.Common.{◌≡◌, length, drop}
use Rattle.std.specs.Vec.Iter.{into_iter_items, into_iter_len}
use Rattle.polling.specs.Seating.{seats_in}
use Rattle.polling.proofs.RoundLemmas.{ArePutSoFar}
use Rattle.polling.proofs.putting.put_all.Given as goal

-- The replies so far were put to the clients so far, and handed over.
abbrev pub invariant-loop-member : goal.invariant-loop-member
invariant-loop-member g l = record {
  put :
      ArePutSoFar g.L.Ledgers.means g.C.Moments.gives g.H.Steward.renews g.H.Steward.waits g.P.Peers.does
      l.round.messages.items l.fn.replies.items l.fn.peers (seats_in l.fn.clients)
      (drop l.member-index l.round.members.items) (into_iter_items l.rest) l.peers
      (seats_in l.clients) l.count;
  count : l.count ≡ l.member-index;
  len : into_iter_len l.rest ≡ length (into_iter_items l.rest);
}
