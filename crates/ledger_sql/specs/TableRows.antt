-- The rows of a table as the trees of a database hold them: the values of the columns, for one
-- tenant.
use Rattle.std.specs.Prelude.{ℕ, ℤ, zero, suc, ◌+◌, Bool, false, not, ◌&&◌, bytes_eq}
use Rattle.std.specs.Prelude.{List, [], ◌∷◌, map, filter}
use Rattle.std.specs.declared.cmp.Ordering.{Ordering}
use Rattle.std.specs.Ordering.{int_cmp, int_eq, is_eq, is_ge, is_le}
use Rattle.sqlite_value.specs.declared.value.Value.{Value}
use Rattle.sqlite_value.specs.declared.value.Value.TheVariants.{Null, Int, Real, Text, Blob}
use Rattle.sqlite_value.specs.Order.{Row, column, value_cmp}
use Rattle.sqlite_sql.specs.Ops.{is_null}
use Rattle.sqlite_trees.specs.Tree.{Trees}
use Rattle.ledger_sql.specs.Schema.{schema_tree, tenant_tree, clock_tree, account_tree}
use Rattle.ledger_sql.specs.Schema.{transfer_tree, balance_tree, status_tree, history_tree}
use Rattle.ledger_sql.specs.Schema.{failed_tree}

-- the value equals this number, as SQL compares; it is these bytes; it is this text
abbrev pub is_int : ℤ → Value → Bool
is_int n (Int m) = int_eq m n
is_int n (Real x) = is_eq (value_cmp (Real x) (Int n))
is_int n _ = false

abbrev pub is_blob : List ℕ → Value → Bool
is_blob bytes (Blob b) = bytes_eq b bytes
is_blob bytes _ = false

abbrev pub is_text : List ℕ → Value → Bool
is_text text (Text t) = bytes_eq t text
is_text text _ = false

-- the values are equal
abbrev pub is_same : Value → Value → Bool
is_same v Null = false
is_same v (Int n) = is_int n v
is_same v (Real x) = not (is_null v) && is_eq (value_cmp v (Real x))
is_same v (Text text) = is_text text v
is_same v (Blob bytes) = is_blob bytes v

-- how the value compares with this number passes a test; NULL never does
abbrev pub is_beside : (Ordering → Bool) → ℤ → Value → Bool
is_beside test n Null = false
is_beside test n (Int m) = test (int_cmp m n)
is_beside test n v = test (value_cmp v (Int n))

-- the value is no less than this number; it is no greater
abbrev pub is_from : ℤ → Value → Bool
is_from n v = is_beside is_ge n v

abbrev pub is_until : ℤ → Value → Bool
is_until n v = is_beside is_le n v

-- so many values of a row, from a place on
abbrev pub cells_from : ℕ → ℕ → Row → Row
cells_from place zero row = []
cells_from place (suc many) row = column row place ∷ cells_from (place + 1) many row

-- A row is its rowid and then its columns, the first of which names the tenant.
abbrev pub is_own : ℤ → Row → Bool
is_own tenant row = is_int tenant (column row 1)

abbrev pub rows_in : ℕ → ℕ → ℤ → Trees → List Row
rows_in tree width tenant trees = map (cells_from 2 width) (filter (is_own tenant) (trees tree))

abbrev pub account_rows : ℤ → Trees → List Row
account_rows = rows_in account_tree 8

abbrev pub transfer_rows : ℤ → Trees → List Row
transfer_rows = rows_in transfer_tree 14

abbrev pub balance_rows : ℤ → Trees → List Row
balance_rows = rows_in balance_tree 5

abbrev pub status_rows : ℤ → Trees → List Row
status_rows = rows_in status_tree 3

abbrev pub history_rows : ℤ → Trees → List Row
history_rows = rows_in history_tree 6

abbrev pub failed_rows : ℤ → Trees → List Row
failed_rows = rows_in failed_tree 1

-- the rowid of a clock row is its tenant
abbrev pub clock_rows : ℤ → Trees → List Row
clock_rows tenant trees =
    map (cells_from 2 1) (filter (λ row. is_int tenant (column row 0)) (trees clock_tree))

-- the rowid of a row of the directory is its number
abbrev pub directory_rows : Trees → List Row
directory_rows trees = map (λ row. column row 0 ∷ cells_from 2 2 row) (trees tenant_tree)

-- the rows of the directory with this name
abbrev pub with_name : List ℕ → List Row → List Row
with_name name rows = filter (λ row. is_text name (column row 1)) rows

abbrev pub version_rows : Trees → List Row
version_rows trees = map (cells_from 2 1) (trees schema_tree)

-- the row begins with this id
abbrev pub has_id : List ℕ → Row → Bool
has_id id row = is_blob id (column row 0)

abbrev pub with_id : List ℕ → List Row → List Row
with_id id rows = filter (has_id id) rows

-- the number of the tenant whose key has this digest, as a row of its own
abbrev pub numbers_with_digest : List ℕ → Trees → List Row
numbers_with_digest digest trees =
    map (λ row. column row 0 ∷ [])
    (filter (λ row. is_blob digest (column row 3)) (trees tenant_tree))
