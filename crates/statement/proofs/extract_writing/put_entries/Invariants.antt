use Rattle.std.proofs.Common.{◌≡◌, ◌++◌, drop}
use Rattle.statement.specs.Lines.{entry_lines}
use Rattle.statement.specs.Written.{lines_text}
use Rattle.statement.proofs.extract_writing.put_entries.Given as goal

-- what is written and the lines of the entries that are left are those of all
abbrev pub invariant-loop-row : goal.invariant-loop-row
invariant-loop-row l =
    l.out.items ++ lines_text l.layout.form l.layout.is_wide (entry_lines (drop l.row-index l.rows) l.rest)
    ≡ l.fn.out.items ++ lines_text l.layout.form l.layout.is_wide (entry_lines l.fn.rows l.fn.transfers)
