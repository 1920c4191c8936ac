use Rattle.std.proofs.Common.{◌≡◌, ◌≤◌, length, map}
use Rattle.std.specs.List.{All}
use Rattle.std.specs.Map.Iter.{deref_pair}
use Rattle.stored_ledgers.specs.Overdue.{IsNotOverdue, settled_to}
use Rattle.stored_ledgers.proofs.due_search.Search.next.Given as goal

-- none of the sets that were looked at is overdue
abbrev pub invariant-loop-number : goal.invariant-loop-number
invariant-loop-number l =
    goal.iterator-loop-number.can_next l.number-iterator
    × goal.iterator-loop-number.is_finite l.number-iterator
    × record {
      unchanged : l.self ≡ l.fn.self;
      passed : All (λ e. IsNotOverdue e.1 (settled_to l.fn.self e.0) l.moment) (map deref_pair l.yielded);
      looked : l.looks ≡ length l.yielded;
      few : l.looks ≤ 256;
    }
