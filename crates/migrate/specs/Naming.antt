-- Which of a ledger's tables stand in a file, by name.
use Rattle.std.specs.Prelude.{ℕ, Bool, not, ◌||◌, List, length, drop}
use Rattle.std.specs.List.{list_any}
use Rattle.sqlite_schema.specs.Names.{same_name}
use Rattle.sqlite_schema.specs.declared.schema.Schema.{Schema}
use Rattle.sqlite_schema.specs.declared.schema.Table.{Table}
use Rattle.ledger_sql.specs.Schema.{ledger_schema}

-- a table has this name
abbrev pub has_table : List Table → List ℕ → Bool
has_table tables name = list_any (λ table. same_name name table.name) tables

-- one of a version's own tables is missing
abbrev pub lacks_any : List Table → List Table → Bool
lacks_any own tables = list_any (λ ours. not (has_table tables ours.name)) own

-- one of a ledger's tables is there that this version has not
abbrev pub has_newer : List Table → List Table → Bool
has_newer own tables =
    list_any (λ ours. has_table tables ours.name) (drop (length own) ledger_schema.tables)

-- by name they are not just the tables of this version, of all that a ledger has
abbrev pub names_other : Schema → Schema → Bool
names_other own schema =
    lacks_any own.tables schema.tables || has_newer own.tables schema.tables
