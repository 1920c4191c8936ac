use Rattle.polling.specs.Seating.{seats_in}
use Rattle.polling.specs.Steps.{CopiesNext}
use Rattle.polling.proofs.round.copy_all.Given as goal

-- The messages of the clients so far are copied, and not too many.
abbrev pub invariant-loop-number : goal.invariant-loop-number
invariant-loop-number g l =
    CopiesNext g.C.Moments.gives (seats_in l.fn.clients) (seats_in l.clients) l.fn.moments
    l.round.members.items l.round.messages.items l.moments l.most
