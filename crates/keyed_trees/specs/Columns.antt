-- The columns of a row that are still to be read.
use Rattle.std.specs.Prelude.{drop}
use Rattle.sqlite_value.specs.Order.{Row}
use Rattle.keyed_trees.specs.declared.columns.Columns.{Columns}

-- their values
abbrev pub unread : Columns → Row
unread columns = drop columns.next columns.row.now
