-- The lines of a statement in each form, byte for byte.
use Rattle.std.specs.Prelude.{ℕ, Bool, List, [], ◌∷◌, ◌++◌, if◌then◌else◌}
use Rattle.amount.specs.Decimal.{decimal_of}
use Rattle.records.specs.declared.balances.Balances.{Balances}
use Rattle.records.specs.declared.statement_row.StatementRow.{StatementRow}
use Rattle.records.specs.declared.transfer.Transfer.{Transfer}
use Rattle.statement.specs.Columns.{Cell, number, word, cell_of, column_name, columns_behind}
use Rattle.statement.specs.Lines.{all_lines, entry_lines}
use Rattle.statement.specs.declared.column.Column.{Column}
use Rattle.statement.specs.declared.column.Column.TheVariants.{Timestamp}
use Rattle.statement.specs.declared.form.Form.{Form}
use Rattle.statement.specs.declared.form.Form.TheVariants.{Csv, Sheet, Json}
use Rattle.statement.specs.declared.layout.Layout.{Layout}
use Rattle.statement.specs.declared.wide_line.Line.{Line}

-- a text between quotes (34)
abbrev pub quoted : List ℕ → List ℕ
quoted text = 34 ∷ text ++ 34 ∷ []

-- a number in a sheet: the field `="123"`, as CSV quotes it: `"=""123"""`
abbrev pub sheet_number : ℕ → List ℕ
sheet_number n = (34 ∷ 61 ∷ 34 ∷ 34 ∷ []) ++ decimal_of n ++ 34 ∷ 34 ∷ 34 ∷ []

-- the text of a cell, without regard to its column
abbrev pub plain_text : Cell → List ℕ
plain_text (number n) = decimal_of n
plain_text (word text) = text

-- the text of a cell in a sheet
abbrev pub sheet_text : Cell → List ℕ
sheet_text (number n) = sheet_number n
sheet_text (word text) = text

-- the text of a cell in a form; in JSON the name stands before it, with a colon (58)
abbrev pub cell_text : Form → Column → Cell → List ℕ
cell_text Csv column cell = plain_text cell
cell_text Sheet column cell = sheet_text cell
cell_text Json column cell = quoted (column_name column) ++ 58 ∷ quoted (plain_text cell)

-- what stands before a line: in JSON `{` (123)
abbrev pub line_front : Form → List ℕ
line_front Csv = []
line_front Sheet = []
line_front Json = 123 ∷ []

-- what stands behind it: a line feed (10), in JSON behind `}` (125)
abbrev pub line_end : Form → List ℕ
line_end Csv = 10 ∷ []
line_end Sheet = 10 ∷ []
line_end Json = 125 ∷ 10 ∷ []

-- the cells of a line in some columns, with a comma (44) before each
abbrev pub cells_behind : Form → Line → List Column → List ℕ
cells_behind form line [] = []
cells_behind form line (column ∷ columns) =
    44 ∷ cell_text form column (cell_of line column) ++ cells_behind form line columns

-- a line in a form
abbrev pub line_text : Form → Bool → Line → List ℕ
line_text form is_wide line =
    line_front form ++ cell_text form Timestamp (cell_of line Timestamp)
    ++ cells_behind form line (columns_behind is_wide) ++ line_end form

-- lines, one after the other
abbrev pub lines_text : Form → Bool → List Line → List ℕ
lines_text form is_wide [] = []
lines_text form is_wide (line ∷ lines) =
    line_text form is_wide line ++ lines_text form is_wide lines

-- the line of some sums, where they are asked for
abbrev pub sums_text : Layout → Line → List ℕ
sums_text layout line =
    if layout.with_sums then line_text layout.form layout.is_wide line else []

-- the names of some columns, with a comma before each
abbrev pub names_behind : List Column → List ℕ
names_behind [] = []
names_behind (column ∷ columns) = 44 ∷ column_name column ++ names_behind columns

-- the line that names the columns; in JSON there is none
abbrev pub names_line : Form → Bool → List ℕ
names_line Csv is_wide =
    column_name Timestamp ++ names_behind (columns_behind is_wide) ++ 10 ∷ []
names_line Sheet is_wide =
    column_name Timestamp ++ names_behind (columns_behind is_wide) ++ 10 ∷ []
names_line Json is_wide = []

-- the statement of a period: the sums before it, its entries, their transfers where a wide one is
-- asked for, and the sums at its end
abbrev pub extract_text :
    Layout → Balances → List StatementRow → List Transfer → Balances → List ℕ
extract_text layout before rows transfers behind =
    names_line layout.form layout.is_wide
    ++ lines_text layout.form layout.is_wide
    (all_lines layout.with_sums before (entry_lines rows transfers) behind)
