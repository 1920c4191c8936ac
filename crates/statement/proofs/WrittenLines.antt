-- The lines of a statement, one after the other.
use Rattle.std.proofs.Common.{◌≡◌, ◌∙◌, ◌∷◌, ◌++◌, ◌+◌, ◌<◌, ℕ, Bool, true, false, cond, List, [], length, drop, get_or, ap, ap₂, sym, add-one, append_assoc, append-nil, drop-cons}
use Rattle.records.specs.declared.balances.Balances.{Balances}
use Rattle.records.specs.declared.statement_row.StatementRow.{StatementRow}
use Rattle.records.specs.declared.transfer.Transfer.{Transfer}
use Rattle.statement.specs.Lines.{IsNextDetails, all_lines, closing_line, entry_line, entry_lines, opening_line}
use Rattle.statement.specs.Written.{extract_text, line_text, lines_text, names_line, sums_text}
use Rattle.statement.specs.declared.details.Details.{Details}
use Rattle.statement.specs.declared.form.Form.{Form}
use Rattle.statement.specs.declared.layout.Layout.{Layout}
use Rattle.statement.specs.declared.wide_line.Line.{Line}

-- the line of an entry, and those of the entries behind it
next_line : (row : StatementRow) (rows : List StatementRow) (transfers rest : List Transfer) (details : Details) → IsNextDetails row.side transfers details rest
    → entry_lines (row ∷ rows) transfers ≡ entry_line row details ∷ entry_lines rows rest
next_line row rows [] rest details next =
    ap₂ (λ (d : Details) (ts : List Transfer). entry_line row d ∷ entry_lines rows ts) (sym next.0) (sym next.1)
next_line row rows (transfer ∷ transfers) rest details next =
    ap₂ (λ (d : Details) (ts : List Transfer). entry_line row d ∷ entry_lines rows ts) (sym next.0) (sym next.1)

-- an entry's line more
pub one_entry_more : (form : Form) (is_wide : Bool) (rows : List StatementRow) (i : ℕ) (row : StatementRow) (transfers rest : List Transfer) (details : Details)
    (line : Line) (out new whole : List ℕ) → i < length rows → row ≡ get_or rows i row → IsNextDetails row.side transfers details rest → line ≡ entry_line row details
    → new ≡ out ++ line_text form is_wide line → out ++ lines_text form is_wide (entry_lines (drop i rows) transfers) ≡ whole
    → new ++ lines_text form is_wide (entry_lines (drop (i + 1) rows) rest) ≡ whole
one_entry_more form is_wide rows i row transfers rest details line out new whole inside is next told written before =
    let from : drop i rows ≡ row ∷ drop (i + 1) rows =
    drop-cons rows i row inside ∙ ap₂ (λ (r : StatementRow) (k : ℕ). r ∷ drop k rows) (sym is) (sym (add-one i)) in
    let lines : entry_lines (drop i rows) transfers ≡ line ∷ entry_lines (drop (i + 1) rows) rest =
    ap (λ (rs : List StatementRow). entry_lines rs transfers) from ∙ next_line row (drop (i + 1) rows) transfers rest details next
    ∙ ap (λ (l : Line). l ∷ entry_lines (drop (i + 1) rows) rest) (sym told) in
    ap (λ (xs : List ℕ). xs ++ lines_text form is_wide (entry_lines (drop (i + 1) rows) rest)) written
    ∙ append_assoc out (line_text form is_wide line) (lines_text form is_wide (entry_lines (drop (i + 1) rows) rest))
    ∙ ap (λ (ls : List Line). out ++ lines_text form is_wide ls) (sym lines) ∙ before

-- a line behind others
lines_and_one : (form : Form) (is_wide : Bool) (lines : List Line) (last : Line)
    → lines_text form is_wide (lines ++ last ∷ []) ≡ lines_text form is_wide lines ++ line_text form is_wide last
lines_and_one form is_wide [] last = append-nil (line_text form is_wide last)
lines_and_one form is_wide (line ∷ lines) last =
    ap (λ (xs : List ℕ). line_text form is_wide line ++ xs) (lines_and_one form is_wide lines last)
    ∙ sym (append_assoc (line_text form is_wide line) (lines_text form is_wide lines) (line_text form is_wide last))

-- the lines between the sums, where they are asked for
lines_between : (form : Form) (is_wide with_sums : Bool) (before behind : Balances) (lines : List Line)
    → lines_text form is_wide (all_lines with_sums before lines behind)
    ≡ cond with_sums (line_text form is_wide (opening_line before)) []
    ++ (lines_text form is_wide lines ++ cond with_sums (line_text form is_wide (closing_line behind)) [])
lines_between form is_wide true before behind lines =
    ap (λ (xs : List ℕ). line_text form is_wide (opening_line before) ++ xs) (lines_and_one form is_wide lines (closing_line behind))
lines_between form is_wide false before behind lines = sym (append-nil (lines_text form is_wide lines))

-- the parts of a statement, one behind the other
pub parts_are : (layout : Layout) (before behind : Balances) (rows kept : List StatementRow) (transfers : List Transfer) (first last : Line)
    (a₀ a₁ a₂ a₃ a₄ : List ℕ) → a₀ ≡ [] → a₁ ≡ a₀ ++ names_line layout.form layout.is_wide → first ≡ opening_line before → a₂ ≡ a₁ ++ sums_text layout first
    → rows ≡ kept → a₃ ≡ a₂ ++ lines_text layout.form layout.is_wide (entry_lines rows transfers) → last ≡ closing_line behind → a₄ ≡ a₃ ++ sums_text layout last
    → a₄ ≡ extract_text layout before kept transfers behind
parts_are layout before behind rows kept transfers first last a₀ a₁ a₂ a₃ a₄ none named opens opened same entered closes closed =
    let names = names_line layout.form layout.is_wide in
    let top = sums_text layout (opening_line before) in
    let middle = lines_text layout.form layout.is_wide (entry_lines kept transfers) in
    let end = sums_text layout (closing_line behind) in
    let one : a₁ ≡ names = named ∙ ap (λ (xs : List ℕ). xs ++ names) none in
    let two : a₂ ≡ names ++ top = opened ∙ ap₂ (λ (xs : List ℕ) (l : Line). xs ++ sums_text layout l) one opens in
    let three : a₃ ≡ (names ++ top) ++ middle =
    entered ∙ ap₂ (λ (xs : List ℕ) (rs : List StatementRow). xs ++ lines_text layout.form layout.is_wide (entry_lines rs transfers)) two same in
    let four : a₄ ≡ ((names ++ top) ++ middle) ++ end = closed ∙ ap₂ (λ (xs : List ℕ) (l : Line). xs ++ sums_text layout l) three closes in
    four ∙ ap (λ (xs : List ℕ). xs ++ end) (append_assoc names top middle) ∙ append_assoc names (top ++ middle) end
    ∙ ap (λ (xs : List ℕ). names ++ xs) (append_assoc top middle end ∙ sym (lines_between layout.form layout.is_wide layout.with_sums before behind (entry_lines kept transfers)))
