-- What stands in a file that is to become a ledger.
use Rattle.std.specs.Prelude.{ℕ, Bool, List}
use Rattle.std.specs.List.{list_any}
use Rattle.sqlite_schema.specs.Names.{same_name}
use Rattle.sqlite_schema.specs.declared.schema.Schema.{Schema}
use Rattle.ledger_sql.specs.Schema.{ledger_schema}

-- a ledger has a table of this name
abbrev pub is_ours : List ℕ → Bool
is_ours name = list_any (λ ours. same_name ours.name name) ledger_schema.tables

-- a table of the schema has such a name
abbrev pub has_ours : Schema → Bool
has_ours schema = list_any (λ table. is_ours table.name) schema.tables
