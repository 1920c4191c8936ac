-- What a form means.
use Rattle.std.specs.Prelude.{ℕ, true, false, List, [], ◌∷◌, map, length, replicate}
use Rattle.std.specs.Prelude.{Some, None, Option, Bool, ◌==◌}
use Rattle.sqlite_value.specs.declared.keys.Collation.TheVariants.{Binary}
use Rattle.sqlite_value.specs.declared.value.Value.TheVariants.{Int}
use Rattle.sqlite_value.specs.declared.keys.Order.{Order}
use Rattle.sqlite_value.specs.Keys.{plain}
use Rattle.sqlite_sql.specs.Term.{Term, lit, col, op1, op2}
use Rattle.sqlite_sql.specs.declared.ops.UnaryOp.TheVariants as unary
use Rattle.sqlite_sql.specs.declared.ops.BinaryOp.TheVariants.{Compare}
use Rattle.sqlite_sql.specs.declared.ops.CompareOp.TheVariants.{Eq}
use Rattle.sqlite_schema.specs.declared.schema.Column.{Column}
use Rattle.sqlite_schema.specs.declared.schema.Kind.TheVariants.{Integer, Text, Blob}
use Rattle.sqlite_schema.specs.declared.schema.Reference.{Reference}
use Rattle.sqlite_schema.specs.declared.schema.Table.{Table}
use Rattle.sqlite_schema.specs.declared.schema.Index.{Index}
use Rattle.ledger_sql.specs.Schema.{column_of, to_tenant}
use Rattle.ledger_shape.specs.declared.forms.ColumnForm.{ColumnForm}
use Rattle.ledger_shape.specs.declared.forms.ColumnForm.TheVariants.{Whole, Bytes, Words}
use Rattle.ledger_shape.specs.declared.forms.KeyForm.{KeyForm}
use Rattle.ledger_shape.specs.declared.forms.CheckForm.{CheckForm}
use Rattle.ledger_shape.specs.declared.forms.CheckForm.TheVariants.{Equals, Length}
use Rattle.ledger_shape.specs.declared.forms.TableForm.{TableForm}
use Rattle.ledger_shape.specs.declared.forms.IndexForm.{IndexForm}

abbrev pub column_for : ColumnForm → Column
column_for (Whole name) = column_of name.now Integer
column_for (Bytes name) = column_of name.now Blob
column_for (Words name) = column_of name.now Text

-- each column ascends by its bytes
abbrev pub is_plain : Order → Bool
is_plain order = order.digits == 0

abbrev pub key_for : KeyForm → List ℕ
key_for form = form.0.now

-- a check of the row in slot 1
abbrev pub check_for : CheckForm → Term
check_for (Equals place number) = op2 (Compare Eq Binary) (col 1 place) (lit (Int number))
check_for (Length place bytes) =
    op2 (Compare Eq Binary) (op1 unary.Length (col 1 place)) (lit (Int bytes))

abbrev pub references_for : Option ℕ → List Reference
references_for None = []
references_for (Some place) = to_tenant place ∷ []

-- a table with no more than its form says
abbrev pub table_for : TableForm → Table
table_for form = record {
  name = form.name.now;
  tree = form.tree;
  columns = map column_for form.columns.now;
  key = form.key;
  primary = form.primary.now;
  uniques = map key_for form.uniques.now;
  orders = replicate (length form.uniques.now) plain;
  checks = map check_for form.checks.now;
  references = references_for form.tenant;
  computed = [];
  stamps = record { places = []; terms = []; formats = [] };
  is_counted = false;
}

abbrev pub index_for : IndexForm → Index
index_for form = record {
  name = form.name.now;
  tree = form.tree;
  table = form.table;
  columns = form.columns.now;
  order = plain;
  is_unique = true;
}
