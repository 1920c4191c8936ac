use Rattle.std.proofs.Common.{◌≡◌, ◌++◌, drop}
use Rattle.statement.specs.Written.{cells_behind, line_end, line_text}
use Rattle.statement.proofs.writing.put_line.Given as goal

-- what is written, the cells that are left and the end are the line
abbrev pub invariant-loop-column : goal.invariant-loop-column
invariant-loop-column l =
    l.out.items ++ cells_behind l.fn.form l.line (drop l.column-index l.column-items) ++ line_end l.fn.form
    ≡ l.fn.out.items ++ line_text l.fn.form l.fn.is_wide l.line
