use Rattle.std.proofs.Common.{◌≡◌, ℕ, List, drop, ◌++◌}
use Rattle.std.specs.Io.KnownBytes.{Appends}
use Rattle.statement.specs.Text.{lines_of, statement_text}
use Rattle.statement.proofs.statement.write_statement.Given as goal

-- What has been written and the lines to come are the statement, and no call has failed since.
abbrev pub invariant-loop-row : goal.invariant-loop-row
invariant-loop-row g l =
    (front : List ℕ)
    × (front ++ lines_of (drop l.row-index l.rows) ≡ statement_text l.rows)
    × Appends (g.W.Drain.written l.fn.writer) (g.W.Drain.written l.writer) front
    × (g.W.Drain.failed l.writer ≡ g.W.Drain.failed l.fn.writer)
