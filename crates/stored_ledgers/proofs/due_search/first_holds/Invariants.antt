use Rattle.std.proofs.Common.{map}
use Rattle.std.specs.Map.Iter.{deref}
use Rattle.stored_ledgers.proofs.HoldLemmas.{IsRead}
use Rattle.stored_ledgers.proofs.due_search.first_holds.Given as goal

-- what was read of the set so far
abbrev pub invariant-loop-hold : goal.invariant-loop-hold
invariant-loop-hold l =
    goal.iterator-loop-hold.can_next l.hold-iterator
    × goal.iterator-loop-hold.is_finite l.hold-iterator
    × IsRead l.set l.first l.released l.moment l.until l.count (map deref l.yielded)
