-- The rowids of a table.
use Rattle.std.specs.Prelude.{List, IsTrue}
use Rattle.std.specs.List.{AllByRecursion}
use Rattle.sqlite_value.specs.Order.{Row}
use Rattle.sqlite_trees.specs.Tree.{IsTable, rowid}
use Rattle.sqlite_trees.specs.View.{is_int}

-- each is a whole number, and they rise, so none comes twice
pub record IsNumbered (rows : List Row) : Type 0 where
  pub rise : IsTable rows
  pub whole : AllByRecursion (λ r. IsTrue (is_int (rowid r))) rows
