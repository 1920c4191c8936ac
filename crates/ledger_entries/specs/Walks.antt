-- The two ways to walk along an account's entries.
use Rattle.std.specs.Prelude.{ℤ, Bool, List}
use Rattle.sqlite_value.specs.declared.value.Value.{Value}
use Rattle.sqlite_value.specs.Order.{Row}
use Rattle.sqlite_trees.specs.declared.store.Direction.{Direction}
use Rattle.sqlite_trees.specs.declared.store.Direction.TheVariants.{Forward, Backward}
use Rattle.ledger_sql.specs.Entries.{AreNewestFirst, AreOldestFirst}
use Rattle.ledger_sql.specs.TableRows.{is_from, is_until}

-- the entries from a time on, and those up to it
abbrev pub in_time : Direction → ℤ → Value → Bool
in_time Forward time = is_from time
in_time Backward time = is_until time

-- the first are the oldest, and the newest
abbrev pub AreInOrder : Direction → List Row → Type 0
AreInOrder Forward = AreOldestFirst
AreInOrder Backward = AreNewestFirst
