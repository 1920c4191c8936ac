-- The rowid that is one above the last of a table.
use Rattle.std.proofs.Common.{◌≡◌, ℤ, pos, ◌+ℤ◌, false, List, [], ◌∷◌, ◌++◌, filter, refl, ap, ◌∙◌, arith, IsTrue, is_eq, Less}
use Rattle.std.specs.List.{AllByRecursion}
use Rattle.std.specs.Ordering.{int_cmp}
use Rattle.std.proofs.lemmas.Int.{ints}
use Rattle.sqlite_value.specs.declared.value.Value.TheVariants.{Int}
use Rattle.sqlite_value.specs.Order.{Row, value_cmp}
use Rattle.sqlite_value.proofs.OrderLemmas.{value_cmp-Int, value_cmp_total}
use Rattle.sqlite_trees.specs.Tree.{IsTable, rowid, has_rowid, put_row}
use Rattle.sqlite_trees.specs.View.{is_int}
use Rattle.sqlite_trees.proofs.ListLemmas.{filter_none, all_weaker}
use Rattle.sqlite_rules.specs.Edit.{id_in, next_rowid}
use Rattle.sqlite_rules.proofs.TableLemmas.{int_is, next_after}

abbrev IsBelow : ℤ → Row → Type 0
IsBelow id r = value_cmp (rowid r) (Int id) ≡ Less

number_below_next : (n : ℤ) → int_cmp n (n +ℤ pos 1) ≡ Less
number_below_next n = grind (arith, ints)

row_below_next : (r : Row) → IsTrue (is_int (rowid r)) → IsBelow (id_in (rowid r) +ℤ pos 1) r
row_below_next r number =
    let id = id_in (rowid r) in
    ap (λ v. value_cmp v (Int (id +ℤ pos 1))) (int_is (rowid r) number) ∙ value_cmp-Int id (id +ℤ pos 1) ∙ number_below_next id

all_below_next : (first : Row) (rows : List Row) → IsTable (first ∷ rows) → AllByRecursion (λ r. IsTrue (is_int (rowid r))) (first ∷ rows)
    → AllByRecursion (IsBelow (next_rowid (first ∷ rows))) (first ∷ rows)
all_below_next first [] rise numbers = (row_below_next first numbers.0, tt)
all_below_next first (second ∷ rows) rise numbers =
    let later = all_below_next second rows rise.1 numbers.1 in
    (value_cmp_total.trans (rowid first) (rowid second) (Int (next_rowid (second ∷ rows))) rise.0.0 later.0, later)

pub below_next : (rows : List Row) → IsTable rows → AllByRecursion (λ r. IsTrue (is_int (rowid r))) rows → AllByRecursion (IsBelow (next_rowid rows)) rows
below_next [] rise numbers = tt
below_next (first ∷ rows) rise numbers = all_below_next first rows rise numbers

-- no row has it
pub next_is_free : (rows : List Row) → IsTable rows → AllByRecursion (λ r. IsTrue (is_int (rowid r))) rows → filter (has_rowid (next_rowid rows)) rows ≡ []
next_is_free rows rise numbers =
    filter_none (has_rowid (next_rowid rows)) rows (all_weaker _ (λ r. has_rowid (next_rowid rows) r ≡ false) (λ r below. ap is_eq below) rows (below_next rows rise numbers))

-- a row above all others is put after them
pub put_row-above : (new : Row) (rows : List Row) → AllByRecursion (λ r. value_cmp (rowid r) (rowid new) ≡ Less) rows → put_row new rows ≡ rows ++ new ∷ []
put_row-above new [] below = refl
put_row-above new (r ∷ rows) below = rw below.0 (ap (λ more. r ∷ more) (put_row-above new rows below.1))

pub put_row-next : (columns : Row) (rows : List Row) → IsTable rows → AllByRecursion (λ r. IsTrue (is_int (rowid r))) rows
    → put_row (Int (next_rowid rows) ∷ columns) rows ≡ rows ++ (Int (next_rowid rows) ∷ columns) ∷ []
put_row-next columns rows rise numbers = put_row-above (Int (next_rowid rows) ∷ columns) rows (below_next rows rise numbers)

pub next_rowid-append : (rows : List Row) (id : ℤ) (columns : Row) → next_rowid (rows ++ (Int id ∷ columns) ∷ []) ≡ id +ℤ pos 1
next_rowid-append rows id columns = next_after rows (Int id ∷ columns)
