-- The names of the forms in which a statement is written.
use Rattle.std.specs.Prelude.{ℕ, List, Option, Some, None, codes, bytes_eq, if◌then◌else◌}
use Rattle.statement.specs.declared.form.Form.{Form}
use Rattle.statement.specs.declared.form.Form.TheVariants.{Csv, Sheet, Json}

-- the form of this name
abbrev pub form_of : List ℕ → Option Form
form_of name =
    if bytes_eq name (codes "csv") then Some Csv
    else if bytes_eq name (codes "sheet") then Some Sheet
    else if bytes_eq name (codes "json") then Some Json
    else None
