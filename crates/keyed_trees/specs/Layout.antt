-- How tables lie in trees.
use Rattle.std.specs.Prelude.{ℕ, List}
use Rattle.sqlite_value.specs.declared.keys.Order.{Order}
use Rattle.sqlite_sql.specs.declared.query.Index.{Index}

-- a key of a table: its own tree, the table's, and the columns that it has, in their order
pub record KeyShape : Type 0 where
  pub tree : ℕ
  pub table : ℕ
  pub columns : List ℕ
  pub order : Order

abbrev pub key_of : Index → KeyShape
key_of i =
    record { tree = i.tree; table = i.table; columns = i.columns.now; order = i.order }
