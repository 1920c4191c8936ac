-- What is found of a tenant by an id.
use Rattle.std.specs.Prelude.{◌≡◌, ◌<◌, ◌^◌, ℕ, ℤ, List, Option, option_map, IfSome}
use Rattle.amount.specs.Column.{column_of}
use Rattle.records.specs.Machine.{Machine}
use Rattle.sqlite_value.specs.Order.{Row}
use Rattle.sqlite_trees.specs.Tree.{Trees}
use Rattle.ledger_sql.specs.Effects.{Picks}
use Rattle.ledger_sql.specs.TableRows.{with_id}
use Rattle.stored_tables.specs.Holds.{HoldsMachine}

-- what a table has of a tenant under an id is what this finds in its machine
abbrev pub TellsById :
    {R : Type 0} → (R → Type 0) → (R → Row) → (ℤ → Trees → List Row) →
    (ℕ → Machine → Option R) → Type 0
TellsById {R} fits values rows finds =
    (tenant : ℤ) (m : Machine) (trees : Trees) (id : ℕ) (found : Option R) →
    HoldsMachine tenant m trees → id < 2 ^ 128 → IfSome found fits →
    Picks (with_id (column_of id) (rows tenant trees)) (option_map values found) →
    found ≡ finds id m
