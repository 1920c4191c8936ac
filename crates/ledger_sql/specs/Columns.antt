-- The columns of a row that are still to be read.
use Rattle.std.specs.Prelude.{drop}
use Rattle.sqlite_value.specs.Order.{Row}
use Rattle.ledger_sql.specs.declared.read.columns.Columns.{Columns}

-- their values
abbrev pub left : Columns → Row
left columns = drop columns.next columns.row.now
