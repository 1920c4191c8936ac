-- The tables of a file of ours, as their definitions are understood. The trees are counted from 0,
-- each table's indexes directly after it.
use Rattle.std.specs.Prelude.{ℕ, ℤ, pos, true, false, List, [], ◌∷◌, map, codes, Some, None, Option}
use Rattle.sqlite_value.specs.declared.keys.Collation.TheVariants.{Binary}
use Rattle.sqlite_value.specs.declared.value.Value.TheVariants.{Null, Int}
use Rattle.sqlite_value.specs.Keys.{plain}
use Rattle.sqlite_sql.specs.Term.{Term, lit, col, op1, op2}
use Rattle.sqlite_sql.specs.declared.ops.UnaryOp.TheVariants.{Length}
use Rattle.sqlite_sql.specs.declared.ops.BinaryOp.TheVariants.{Compare}
use Rattle.sqlite_sql.specs.declared.ops.CompareOp.TheVariants.{Eq}
use Rattle.sqlite_schema.specs.declared.schema.Column.{Column}
use Rattle.sqlite_schema.specs.declared.schema.Kind.{Kind}
use Rattle.sqlite_schema.specs.declared.schema.Kind.TheVariants.{Integer, Text, Blob}
use Rattle.sqlite_schema.specs.declared.schema.Action.TheVariants.{NoAction}
use Rattle.sqlite_schema.specs.declared.schema.Reference.{Reference}
use Rattle.sqlite_schema.specs.declared.schema.Table.{Table}
use Rattle.sqlite_schema.specs.declared.schema.Schema.{Schema}
use Rattle.sqlite_catalog.specs.Change.{created}

-- a column of a STRICT table, never NULL
abbrev pub column_of : List ℕ → Kind → Column
column_of name kind = record {
  name = name;
  kind = kind;
  is_strict = true;
  not_null = true;
  default = Null;
  collation = Binary;
}

-- a column of whole numbers, of bytes, of text
abbrev whole : List ℕ → Column
whole name = column_of name Integer

abbrev bytes : List ℕ → Column
bytes name = column_of name Blob

abbrev words : List ℕ → Column
words name = column_of name Text

-- the value at a place of the row has so many bytes
abbrev is_long : ℕ → ℕ → Term
is_long place many = op2 (Compare Eq Binary) (op1 Length (col 1 place)) (lit (Int (pos many)))

-- the value at a place of the row, where the rowid is at 0, names a tenant
abbrev pub to_tenant : ℕ → Reference
to_tenant place = record {
  columns = place ∷ [];
  parent = codes "tenant";
  parent_columns = codes "no" ∷ [];
  on_delete = NoAction;
  on_update = NoAction;
  is_deferred = false;
}

-- a table by its name, its columns, the place of its rowid, its primary key, its unique keys, its
-- checks and what it refers to
abbrev pub table : List ℕ → List Column → Option ℕ → List ℕ → List (List ℕ) → List Term
    → List Reference → Table
table name columns key primary uniques checks references = record {
  name = name;
  tree = 0;
  columns = columns;
  key = key;
  primary = primary;
  uniques = uniques;
  orders = map (λ _. plain) uniques;
  checks = checks;
  references = references;
  computed = [];
  stamps = record { places = []; terms = []; formats = [] };
  is_counted = false;
}

abbrev pub schema_table : Table
schema_table =
    table (codes "schema") (whole (codes "one") ∷ whole (codes "version") ∷ []) (Some 0) (0 ∷ []) []
    (op2 (Compare Eq Binary) (col 1 0) (lit (Int (pos 1))) ∷ []) []

abbrev pub tenant_table : Table
tenant_table =
    table (codes "tenant")
    (whole (codes "no") ∷ words (codes "name") ∷ bytes (codes "digest") ∷ [])
    (Some 0) (0 ∷ []) ((2 ∷ []) ∷ (3 ∷ []) ∷ []) (is_long 3 32 ∷ []) []

abbrev pub clock_table : Table
clock_table =
    table (codes "clock") (whole (codes "tenant") ∷ whole (codes "clock") ∷ []) (Some 0) (0 ∷ []) []
    [] (to_tenant 0 ∷ [])

abbrev pub account_table : Table
account_table =
    table (codes "account")
    (whole (codes "tenant") ∷ bytes (codes "id") ∷ bytes (codes "user_data_128")
    ∷ bytes (codes "user_data_64") ∷ whole (codes "user_data_32") ∷ whole (codes "ledger")
    ∷ whole (codes "code") ∷ whole (codes "flags") ∷ whole (codes "timestamp") ∷ [])
    None (1 ∷ 2 ∷ []) ((1 ∷ 2 ∷ []) ∷ (1 ∷ 9 ∷ []) ∷ [])
    (is_long 2 16 ∷ is_long 3 16 ∷ is_long 4 8 ∷ []) (to_tenant 1 ∷ [])

abbrev pub transfer_table : Table
transfer_table =
    table (codes "transfer")
    (whole (codes "tenant") ∷ bytes (codes "id") ∷ bytes (codes "debit") ∷ bytes (codes "credit")
    ∷ bytes (codes "amount") ∷ bytes (codes "pending_id") ∷ bytes (codes "user_data_128")
    ∷ bytes (codes "user_data_64") ∷ whole (codes "user_data_32") ∷ whole (codes "timeout")
    ∷ whole (codes "ledger") ∷ whole (codes "code") ∷ whole (codes "flags")
    ∷ whole (codes "timestamp") ∷ whole (codes "at_clock") ∷ [])
    None (1 ∷ 2 ∷ []) ((1 ∷ 2 ∷ []) ∷ (1 ∷ 14 ∷ []) ∷ [])
    (is_long 2 16 ∷ is_long 3 16 ∷ is_long 4 16 ∷ is_long 5 16 ∷ is_long 6 16 ∷ is_long 7 16
    ∷ is_long 8 8 ∷ [])
    (to_tenant 1 ∷ [])

abbrev pub balance_table : Table
balance_table =
    table (codes "balance")
    (whole (codes "tenant") ∷ bytes (codes "account") ∷ bytes (codes "dp") ∷ bytes (codes "dd")
    ∷ bytes (codes "cp") ∷ bytes (codes "cc") ∷ [])
    None (1 ∷ 2 ∷ []) ((1 ∷ 2 ∷ []) ∷ [])
    (is_long 2 16 ∷ is_long 3 16 ∷ is_long 4 16 ∷ is_long 5 16 ∷ is_long 6 16 ∷ [])
    (to_tenant 1 ∷ [])

abbrev pub status_table : Table
status_table =
    table (codes "status")
    (whole (codes "tenant") ∷ bytes (codes "transfer") ∷ whole (codes "state")
    ∷ whole (codes "due") ∷ [])
    None (1 ∷ 2 ∷ []) ((1 ∷ 2 ∷ []) ∷ []) (is_long 2 16 ∷ []) (to_tenant 1 ∷ [])

abbrev pub history_table : Table
history_table =
    table (codes "history")
    (whole (codes "tenant") ∷ bytes (codes "account") ∷ whole (codes "timestamp")
    ∷ bytes (codes "dp") ∷ bytes (codes "dd") ∷ bytes (codes "cp") ∷ bytes (codes "cc") ∷ [])
    None (1 ∷ 2 ∷ 3 ∷ []) ((1 ∷ 2 ∷ 3 ∷ []) ∷ [])
    (is_long 2 16 ∷ is_long 4 16 ∷ is_long 5 16 ∷ is_long 6 16 ∷ is_long 7 16 ∷ [])
    (to_tenant 1 ∷ [])

abbrev pub failed_table : Table
failed_table =
    table (codes "failed") (whole (codes "tenant") ∷ bytes (codes "id") ∷ []) None (1 ∷ 2 ∷ [])
    ((1 ∷ 2 ∷ []) ∷ []) (is_long 2 16 ∷ []) (to_tenant 1 ∷ [])

-- a file without tables, and after each further table
abbrev pub no_schema : Schema
no_schema = record { tables = []; indexes = []; views = [] }

abbrev pub after_schema : Schema
after_schema = created no_schema schema_table

abbrev pub after_tenant : Schema
after_tenant = created after_schema tenant_table

abbrev pub after_clock : Schema
after_clock = created after_tenant clock_table

abbrev pub after_account : Schema
after_account = created after_clock account_table

-- the list schema, which is version 1
abbrev pub list_schema : Schema
list_schema = created after_account transfer_table

abbrev pub after_balance : Schema
after_balance = created list_schema balance_table

abbrev pub after_status : Schema
after_status = created after_balance status_table

-- the balance schema, which is version 2
abbrev pub balance_schema : Schema
balance_schema = created after_status history_table

-- the failed-id schema, which is version 3 and the current one
abbrev pub ledger_schema : Schema
ledger_schema = created balance_schema failed_table

-- the version of the current schema
abbrev pub current_version : ℤ
current_version = pos 3

-- the tree of each table of the current schema
abbrev pub schema_tree : ℕ
schema_tree = 0

abbrev pub tenant_tree : ℕ
tenant_tree = 1

abbrev pub clock_tree : ℕ
clock_tree = 4

abbrev pub account_tree : ℕ
account_tree = 5

abbrev pub transfer_tree : ℕ
transfer_tree = 8

abbrev pub balance_tree : ℕ
balance_tree = 11

abbrev pub status_tree : ℕ
status_tree = 13

abbrev pub history_tree : ℕ
history_tree = 15

abbrev pub failed_tree : ℕ
failed_tree = 17
