use Rattle.std.proofs.Common.{◌≡◌, ◌≤◌, ℕ, List, Some, false, nat_eq, length, take, drop}
use Rattle.std.specs.List.{ends_with}
use Rattle.ledger_http.specs.Limits.{max_head}
use Rattle.ledger_http.specs.Message.{blank_line}
use Rattle.ledger_http.proofs.reading.read_head.Given as goal

-- So many bytes have been taken, and no beginning of them ends with a blank line.
abbrev pub invariant-loop-at : goal.invariant-loop-at
invariant-loop-at g l =
    (g.R.Source.failed l.reader ≡ g.R.Source.failed l.initial.reader)
    × (length l.head ≡ max_head)
    × ((j : ℕ) → j ≤ l.at → ends_with nat_eq (take j l.head) blank_line ≡ false)
    × ((bytes : List ℕ) → g.R.Source.left l.initial.reader ≡ Some bytes
    → (take l.at l.head ≡ take l.at bytes)
    × (l.at ≤ length bytes)
    × (g.R.Source.left l.reader ≡ Some (drop l.at bytes)))
