-- Which rows may stand in a ledger's tables, by the trees in which these lie.
use Rattle.std.specs.Prelude.{ℕ, ℤ, ◌==◌, List, ◌∷◌, find, IfSome}
use Rattle.sqlite_value.specs.Order.{Row}
use Rattle.sqlite_value.specs.declared.value.Value.TheVariants.{Int}
use Rattle.sqlite_catalog.specs.Listing.{Lists}
use Rattle.ledger_rules.specs.Rows.{FitsAlone}
use Rattle.ledger_sql.specs.Schema.{ledger_schema}

-- the row fits the table that lies in this tree
abbrev pub FitsTree : ℕ → Row → Type 0
FitsTree tree row = IfSome (find (λ t. t.tree == tree) ledger_schema.tables) (λ t. FitsAlone t row)

-- the list of objects is that of a ledger
abbrev pub ListsLedger : List Row → Type 0
ListsLedger objects = Lists objects ledger_schema

-- a row with these columns fits, whatever its rowid
abbrev pub FitsAt : ℕ → Row → Type 0
FitsAt tree columns = (id : ℤ) → FitsTree tree (Int id ∷ columns)
