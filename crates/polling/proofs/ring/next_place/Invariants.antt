use Rattle.polling.proofs.RingLemmas.{IsNextSoFar}
use Rattle.polling.proofs.ring.next_place.Given as goal

-- So far this one is the first, and the oldest of its tenant.
abbrev pub invariant-loop-index : goal.invariant-loop-index
invariant-loop-index l = IsNextSoFar l.last l.waiting l.index l.place l.next
