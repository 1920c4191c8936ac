-- The narrow CSV of a period without sums is the statement of its entries.
use Rattle.std.proofs.Common.{◌≡◌, ◌∙◌, ◌∷◌, ◌++◌, ℕ, false, List, [], ap, ap₂, drop, sym, refl, append-nil}
use Rattle.std.specs.List.{join_with_byte}
use Rattle.amount.specs.Decimal.{decimal_of}
use Rattle.records.specs.declared.statement_row.StatementRow.{StatementRow}
use Rattle.records.specs.declared.transfer.Transfer.{Transfer}
use Rattle.statement.specs.Laws.{AreExtractsPlain}
use Rattle.statement.specs.Lines.{details_of, entry_line, entry_lines, no_details}
use Rattle.statement.specs.Text.{fields_of, header_line, line_of, lines_of}
use Rattle.statement.specs.Written.{line_text, lines_text, names_line}
use Rattle.statement.specs.declared.details.Details.{Details}
use Rattle.statement.specs.declared.form.Form.TheVariants.{Csv}
use Rattle.statement.proofs.PlainLines.{lines_plain}

-- fields, with a comma before each
abbrev behind : List (List ℕ) → List ℕ
behind [] = []
behind (field ∷ fields) = 44 ∷ field ++ behind fields

joined : (field : List ℕ) (fields : List (List ℕ)) → field ++ behind fields ≡ join_with_byte 44 (field ∷ fields)
joined field [] = append-nil field
joined field (next ∷ fields) = ap (λ (xs : List ℕ). field ++ (44 ∷ xs)) (joined next fields)

-- fields with commas between them, and a line feed
ended : (field : List ℕ) (fields : List (List ℕ))
    → (field ++ behind fields) ++ 10 ∷ [] ≡ join_with_byte 44 (field ∷ fields) ++ 10 ∷ []
ended field fields = ap (λ (xs : List ℕ). xs ++ 10 ∷ []) (joined field fields)

line_plain : (row : StatementRow) (details : Details) → line_text Csv false (entry_line row details) ≡ line_of row
line_plain row details = ended (decimal_of row.timestamp) (drop 1 (fields_of row)) ∙ sym (lines_plain row)

lines_plain_all : (rows : List StatementRow) (transfers : List Transfer)
    → lines_text Csv false (entry_lines rows transfers) ≡ lines_of rows
lines_plain_all [] transfers = refl
lines_plain_all (row ∷ rows) [] =
    ap₂ (λ (xs ys : List ℕ). xs ++ ys) (line_plain row no_details) (lines_plain_all rows [])
lines_plain_all (row ∷ rows) (transfer ∷ transfers) =
    ap₂ (λ (xs ys : List ℕ). xs ++ ys) (line_plain row (details_of row.side transfer)) (lines_plain_all rows transfers)

header_plain : names_line Csv false ≡ header_line
unfolding header_line
header_plain = refl

pub extracts_plain : AreExtractsPlain
extracts_plain rows transfers before behind =
    ap₂ (λ (xs ys : List ℕ). xs ++ ys) header_plain (lines_plain_all rows transfers)
