-- A row after all others keeps the rowids in order.
use Rattle.std.proofs.Common.{◌≡◌, ℤ, pos, ◌+ℤ◌, List, [], ◌∷◌, ◌++◌, refl, ap, ◌∙◌, arith, IsTrue, Less}
use Rattle.std.specs.List.{AllByRecursion}
use Rattle.std.specs.Ordering.{int_cmp}
use Rattle.std.proofs.lemmas.Int.{ints}
use Rattle.sqlite_value.specs.declared.value.Value.TheVariants.{Int}
use Rattle.sqlite_value.specs.Order.{Row, value_cmp}
use Rattle.sqlite_value.proofs.OrderLemmas.{value_cmp-Int, value_cmp_total}
use Rattle.sqlite_trees.specs.Tree.{IsTable, rowid}
use Rattle.sqlite_trees.specs.View.{is_int}
use Rattle.sqlite_rules.specs.Edit.{id_in, next_rowid}
use Rattle.sqlite_rules.proofs.TableLemmas.{int_is}
use Rattle.ledger_sql.specs.Rowids.{IsNumbered}

abbrev IsBelow : ℤ → Row → Type 0
IsBelow id r = value_cmp (rowid r) (Int id) ≡ Less

number_below_next : (n : ℤ) → int_cmp n (n +ℤ pos 1) ≡ Less
number_below_next n = grind (arith, ints)

row_below_next : (r : Row) → IsTrue (is_int (rowid r)) → IsBelow (id_in (rowid r) +ℤ pos 1) r
row_below_next r number =
    let id = id_in (rowid r) in
    ap (λ v. value_cmp v (Int (id +ℤ pos 1))) (int_is (rowid r) number) ∙ value_cmp-Int id (id +ℤ pos 1) ∙ number_below_next id

all_below_next : (first : Row) (rows : List Row) → IsTable (first ∷ rows) → AllByRecursion (λ r. IsTrue (is_int (rowid r))) (first ∷ rows)
    → AllByRecursion (IsBelow (next_rowid (first ∷ rows))) (first ∷ rows)
all_below_next first [] rise numbers = (row_below_next first numbers.0, tt)
all_below_next first (second ∷ rows) rise numbers =
    let later = all_below_next second rows rise.1 numbers.1 in
    (value_cmp_total.trans (rowid first) (rowid second) (Int (next_rowid (second ∷ rows))) rise.0.0 later.0, later)

below_next : (rows : List Row) → IsTable rows → AllByRecursion (λ r. IsTrue (is_int (rowid r))) rows → AllByRecursion (IsBelow (next_rowid rows)) rows
below_next [] rise numbers = tt
below_next (first ∷ rows) rise numbers = all_below_next first rows rise numbers

all_after : (P : Row → Type 0) (xs : List Row) (y : Row) → AllByRecursion P xs → P y → AllByRecursion P (xs ++ y ∷ [])
all_after P [] y all last = (last, tt)
all_after P (x ∷ xs) y all last = (all.0, all_after P xs y all.1 last)

rise_after : (xs : List Row) (y : Row) → IsTable xs → AllByRecursion (λ x. value_cmp (rowid x) (rowid y) ≡ Less) xs → IsTable (xs ++ y ∷ [])
rise_after [] y rise below = (tt, tt)
rise_after (x ∷ xs) y rise below = (all_after (λ z. value_cmp (rowid x) (rowid z) ≡ Less) xs y rise.0 below.0, rise_after xs y rise.1 below.1)

pub numbered_next : (columns : Row) (rows : List Row) → IsNumbered rows → IsNumbered (rows ++ (Int (next_rowid rows) ∷ columns) ∷ [])
numbered_next columns rows numbered =
    let new : Row = Int (next_rowid rows) ∷ columns in
    record {
      rise = rise_after rows new numbered.rise (below_next rows numbered.rise numbered.whole);
      whole = all_after (λ r. IsTrue (is_int (rowid r))) rows new numbered.whole refl;
    }
