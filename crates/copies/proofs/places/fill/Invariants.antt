use Rattle.std.proofs.Common.{◌≡◌, ◌≤◌, length}
use Rattle.copies.proofs.places.fill.Given as goal

-- So much was read, and the room is as long as it was.
abbrev pub invariant-loop : goal.invariant-loop
invariant-loop l = record {
  bound : l.count ≤ length l.room;
  size : length l.room ≡ length l.fn.room;
}
