-- A tenant's accounts, or its transfers, in a span of time.
use Rattle.std.specs.Prelude.{ℕ, ℤ, pos, ◌&&◌, List, [], ◌∷◌, filter, IsSorted}
use Rattle.sqlite_value.specs.declared.value.Value.TheVariants.{Int}
use Rattle.sqlite_value.specs.Order.{Row, column, value_cmp}
use Rattle.sqlite_trees.specs.Tree.{Trees}
use Rattle.ledger_sql.specs.TableRows.{account_rows, transfer_rows, is_from, is_until}

-- the rows whose timestamp, at a place, is in a span of time; both ends are inclusive
abbrev pub rows_between : ℕ → ℤ → ℤ → List Row → List Row
rows_between place first last rows =
    filter (λ row. is_from first (column row place) && is_until last (column row place)) rows

abbrev pub accounts_between : ℤ → ℤ → ℤ → Trees → List Row
accounts_between tenant first last trees = rows_between 7 first last (account_rows tenant trees)

abbrev pub transfers_between : ℤ → ℤ → ℤ → Trees → List Row
transfers_between tenant first last trees =
    rows_between 12 first last (transfer_rows tenant trees)

-- the rows ascend by the values at a place, as SQL orders them; they descend
abbrev pub AscendAt : ℕ → List Row → Type 0
AscendAt place rows = IsSorted (λ a b. value_cmp (column a place) (column b place)) rows

abbrev pub DescendAt : ℕ → List Row → Type 0
DescendAt place rows = IsSorted (λ a b. value_cmp (column b place) (column a place)) rows

-- what a text is given: the tenant, both ends of the span, and how many rows at most
abbrev pub span_params : ℤ → ℤ → ℤ → ℕ → Row
span_params tenant first last most =
    Int tenant ∷ Int first ∷ Int last ∷ Int (pos most) ∷ []
