use Rattle.std.proofs.Common.{length, ◌≡◌, ℕ, List, take, Some, ◌≤◌}
use Rattle.copies.proofs.pieces.match_all.Given as goal

-- So far the copy is the file, and the room is as it was.
abbrev pub invariant-loop : goal.invariant-loop
invariant-loop g l = record {
  size : length l.room ≡ length l.fn.room;
  same : (all had : List ℕ) → g.F.Places.bytes l.file ≡ Some all → g.G.Places.bytes l.fn.copy ≡ Some had →
      (l.at ≤ length all)
      × ((now : List ℕ) × (g.G.Places.bytes l.copy ≡ Some now) × (take l.at now ≡ take l.at all) × (l.at ≤ length now));
}
