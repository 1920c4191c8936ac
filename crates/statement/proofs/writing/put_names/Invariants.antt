use Rattle.std.proofs.Common.{◌≡◌, ◌∷◌, ◌++◌, [], drop}
use Rattle.statement.specs.Written.{names_behind, names_line}
use Rattle.statement.proofs.writing.put_names.Given as goal

-- what is written, the names that are left and the end are the line
abbrev pub invariant-loop-column : goal.invariant-loop-column
invariant-loop-column l =
    l.out.items ++ names_behind (drop l.column-index l.column-items) ++ 10 ∷ []
    ≡ l.fn.out.items ++ names_line l.fn.form l.fn.is_wide
