-- The tables of strangers in a file of ours.
use Rattle.std.specs.Prelude.{◌≡◌, ◌==◌, ℕ, Bool, List, filter, map}
use Rattle.std.specs.List.{list_any}
use Rattle.sqlite_value.specs.Order.{Row}
use Rattle.sqlite_trees.specs.Tree.{Trees}
use Rattle.sqlite_schema.specs.declared.schema.Table.{Table}
use Rattle.sqlite.specs.Effect.{Database}
use Rattle.ledger_sql.specs.Effects.{is_stranger}
use Rattle.ledger_sql.specs.Schema.{ledger_schema}

-- one of our tables has this tree
abbrev pub is_ours : ℕ → Bool
is_ours tree = list_any (λ ours. ours.tree == tree) ledger_schema.tables

-- the strangers' among some tables, each with its rows
abbrev pub strangers_among : List Table → Trees → List (Table × List Row)
strangers_among tables trees = map (λ t. (t, trees t.tree)) (filter is_stranger tables)

-- the tables of strangers in a database, each with its rows
abbrev pub strangers_in : Database → List (Table × List Row)
strangers_in db = strangers_among db.schema.tables db.trees

-- they are as before
abbrev pub KeepsStrangers : Database → Database → Type 0
KeepsStrangers old new = strangers_in new ≡ strangers_in old
