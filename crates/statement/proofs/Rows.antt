-- The fields of a row, as the code has them.
use Rattle.std.proofs.Common.{◌≡◌, ◌∙◌, ◌∷◌, ◌++◌, ◌+◌, ◌<◌, ℕ, suc, List, [], length, drop, get_or, ap, ap₂, sym, add-one, append_assoc, drop-cons}
use Rattle.csv.specs.Writing.{default_writer, row_text}
use Rattle.amount.specs.Decimal.{decimal_of}
use Rattle.records.specs.declared.statement_row.StatementRow.{StatementRow}
use Rattle.statement.specs.Text.{lines_of, kind_name, line_of, side_name}

field : (x y : List ℕ) (xs ys : List (List ℕ)) → x ≡ y → xs ≡ ys → x ∷ xs ≡ y ∷ ys
field x y xs ys e f = ap₂ (λ (z : List ℕ) (zs : List (List ℕ)). z ∷ zs) e f

pub line_is : (row : StatementRow) (timestamp id side kind amount dp dq cp cq : List ℕ) → timestamp ≡ decimal_of row.timestamp → id ≡ decimal_of row.transfer_id
    → side ≡ side_name row.side → kind ≡ kind_name row.kind → amount ≡ decimal_of row.amount
    → dp ≡ decimal_of row.balances.debits.pending → dq ≡ decimal_of row.balances.debits.posted
    → cp ≡ decimal_of row.balances.credits.pending → cq ≡ decimal_of row.balances.credits.posted
    → row_text default_writer (timestamp ∷ id ∷ side ∷ kind ∷ amount ∷ dp ∷ dq ∷ cp ∷ cq ∷ []) ≡ line_of row
unfolding line_of
line_is row timestamp id side kind amount dp dq cp cq h0 h1 h2 h3 h4 h5 h6 h7 h8 =
    ap (row_text default_writer)
    (field _ _ _ _ h0
    (field _ _ _ _ h1
    (field _ _ _ _ h2
    (field _ _ _ _ h3
    (field _ _ _ _ h4
    (field _ _ _ _ h5
    (field _ _ _ _ h6
    (field _ _ _ _ h7
    (ap (λ (z : List ℕ). z ∷ []) h8)))))))))

-- the lines from a row on are its own, and those behind it
pub lines_from : (rows : List StatementRow) (i : ℕ) (row : StatementRow) → i < length rows → row ≡ get_or rows i row
    → lines_of (drop i rows) ≡ line_of row ++ lines_of (drop (i + 1) rows)
lines_from rows i row inside is =
    let next : i + 1 ≡ suc i = add-one i in
    ap lines_of (drop-cons rows i row inside)
    ∙ ap (λ (r : StatementRow). line_of r ++ lines_of (drop (suc i) rows)) (sym is)
    ∙ ap (λ (k : ℕ). line_of row ++ lines_of (drop k rows)) (sym next)

-- a row's line more
pub one_line_more : (rows : List StatementRow) (i : ℕ) (row : StatementRow) (front whole : List ℕ) → i < length rows → row ≡ get_or rows i row
    → front ++ lines_of (drop i rows) ≡ whole → (front ++ line_of row) ++ lines_of (drop (i + 1) rows) ≡ whole
one_line_more rows i row front whole inside is sent =
    append_assoc front (line_of row) (lines_of (drop (i + 1) rows)) ∙ ap (λ (xs : List ℕ). front ++ xs) (sym (lines_from rows i row inside is)) ∙ sent
