use Rattle.std.proofs.Common.{◌≡◌, ◌++◌, drop, map}
use Rattle.chain.specs.AccountEntries.{row_of}
use Rattle.statement.specs.Text.{lines_of}
use Rattle.parts.proofs.rows.put_lines.Given as goal

-- The lines so far and those to come are all of them.
abbrev pub invariant-loop-entry : goal.invariant-loop-entry
invariant-loop-entry l =
    l.lines.items ++ lines_of (map (row_of l.account) (drop l.entry-index l.entries))
    ≡ l.before ++ lines_of (map (row_of l.account) l.entries)
