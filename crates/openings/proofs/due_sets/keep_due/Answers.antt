use Rattle.std.proofs.Common.{◌≡◌, Bool, true, false, cond, IsTrue, ◌∙◌}
use Rattle.openings.proofs.due_sets.keep_due.Goals as goal

still_there : (same had has : Bool) → has ≡ cond same true had → IsTrue had → IsTrue has
still_there true had has is there = is
still_there false had has is there = is ∙ there

pub returns-in_ok-insert-clause-grows : goal.returns-in_ok-insert-clause-grows
returns-in_ok-insert-clause-grows c q had = still_there _ _ _ (c.in_ok-insert.ensures.updates.0 q) had
