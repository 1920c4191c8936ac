-- How a table of results is read: from the top, the first row whose condition holds is the answer.
use Rattle.std.specs.Prelude.{Bool, List, [], ◌∷◌, Option, Some, None, if◌then◌else◌}

-- the first row that holds
abbrev pub first_of : {A : Type 0} → List (Bool × A) → Option A
first_of [] = None
first_of (row ∷ rows) = if row.0 then Some row.1 else first_of rows

-- the answer of the first table, or where it has none that of the next
abbrev pub or_else : {A : Type 0} → Option A → Option A → Option A
or_else (Some answer) next = Some answer
or_else None next = next
