-- What is so of every schema that begins with some tables of ours, whatever lies behind them.
use Rattle.std.proofs.Common.{◌≡◌, List, ◌++◌, sym, subst}
use Rattle.sqlite_schema.specs.declared.schema.Schema.{Schema}
use Rattle.sqlite_schema.specs.declared.schema.Table.{Table}
use Rattle.sqlite_schema.specs.declared.schema.Index.{Index}
use Rattle.sqlite_schema.specs.declared.schema.View.{View}
use Rattle.ledger_sql.specs.Schema.{ledger_schema}
use Rattle.ledger_sql.specs.Effects.{IsLedger, StartsAs}

abbrev pub tables_with : List Table → List Table → List Index → List View → Schema
tables_with ours more indexes views = record { tables = ours ++ more; indexes = indexes; views = views }

starts_is : (ours : List Table) (s : Schema) (h : StartsAs ours s) → s ≡ tables_with ours h.0 s.indexes s.views
starts_is ours s h i = record { tables = h.1 i; indexes = s.indexes; views = s.views }

-- it is so with all that may lie behind them
abbrev pub IsBefore : List Table → (Schema → Type 0) → Type 0
IsBefore ours Is = (more : List Table) (indexes : List Index) (views : List View) → Is (tables_with ours more indexes views)

pub over_tables : (ours : List Table) (Is : Schema → Type 0) → IsBefore ours Is → (s : Schema) → StartsAs ours s → Is s
over_tables ours Is means s h = subst Is (sym (starts_is ours s h)) (means h.0 s.indexes s.views)

pub over_ledger : (Is : Schema → Type 0) → IsBefore ledger_schema.tables Is → (s : Schema) → IsLedger s → Is s
over_ledger Is means s h = over_tables ledger_schema.tables Is means s (h.more, h.tables)
