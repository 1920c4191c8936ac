use Rattle.std.proofs.Common.{◌≡◌, ◌≤◌, ◌-◌, ℕ, List, Some, length, take, drop}
use Rattle.ledger_http.proofs.reading.fill.Given as goal

-- So many bytes have been read into the front.
abbrev pub invariant-loop-filled : goal.invariant-loop-filled
invariant-loop-filled g l =
    (g.R.Source.failed l.reader ≡ g.R.Source.failed l.initial.reader)
    × (l.filled ≤ length l.room)
    × (length l.room ≡ length l.initial.room)
    × ((bytes : List ℕ) → g.R.Source.left l.initial.reader ≡ Some bytes
    → (take l.filled l.room ≡ take l.filled bytes)
    × (l.filled ≤ length bytes)
    × (g.R.Source.left l.reader ≡ Some (drop l.filled bytes)))

abbrev pub decreases-loop-filled : goal.decreases-loop-filled
decreases-loop-filled g l = length l.initial.room - l.filled
