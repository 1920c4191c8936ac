-- The tables behind a ledger's: the parts of `is_stranger`, each a word that a proof need not open.
use Rattle.std.specs.Prelude.{◌==◌, ◌&&◌, not, Bool}
use Rattle.std.specs.List.{list_any, list_all}
use Rattle.sqlite_schema.specs.Names.{same_name}
use Rattle.sqlite_schema.specs.declared.schema.Reference.{Reference}
use Rattle.sqlite_schema.specs.declared.schema.Table.{Table}
use Rattle.ledger_sql.specs.Schema.{ledger_schema}

-- it refers to none of a ledger's tables
unfoldable pub refers_elsewhere : Reference → Bool
refers_elsewhere ref = not (list_any (λ ours. same_name ours.name ref.parent) ledger_schema.tables)

-- its tree is that of none of a ledger's tables
unfoldable pub has_own_tree : Table → Bool
has_own_tree t = not (list_any (λ ours. ours.tree == t.tree) ledger_schema.tables)

abbrev pub is_apart : Table → Bool
is_apart t = has_own_tree t && list_all refers_elsewhere t.references
