use Rattle.std.proofs.Common.{drop}
use Rattle.polling.specs.Round.{IsNoneOf}
use Rattle.polling.proofs.round.is_among.Given as goal

-- The client is none of those so far.
abbrev pub invariant-loop-member : goal.invariant-loop-member
invariant-loop-member l =
    IsNoneOf l.number (drop l.member-index l.members) → IsNoneOf l.number l.members
