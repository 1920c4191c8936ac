use Rattle.std.proofs.Common.{length, ◌-◌, ◌≡◌, ℕ, List, take, drop, Some, ◌≤◌}
use Rattle.copies.specs.Places.{overwritten}
use Rattle.copies.proofs.pieces.mend.Given as goal

-- So much of the part is written.
abbrev pub invariant-loop-done : goal.invariant-loop-done
invariant-loop-done g l = (l.done ≤ length l.part)
    × ((all : List ℕ) → g.G.Places.bytes l.fn.copy ≡ Some all → l.at ≤ length all
    → take (length l.part) (drop l.at all) ≡ l.had
    → g.G.Places.bytes l.copy ≡ Some (overwritten l.at (take l.done l.part) all))

abbrev pub decreases-loop-done : goal.decreases-loop-done
decreases-loop-done g l = length l.part - l.done
