use Rattle.std.proofs.Common.{◌≡◌, ◌≤◌, ℕ, false, nat_eq, take}
use Rattle.std.specs.List.{ends_with}
use Rattle.ledger_http.specs.Message.{blank_line}
use Rattle.ledger_http.proofs.ends.head_end.Given as goal

-- No beginning so far ends with a blank line.
abbrev pub invariant-loop-end : goal.invariant-loop-end
invariant-loop-end l = (j : ℕ) → j ≤ l.end → ends_with nat_eq (take j l.bytes) blank_line ≡ false
