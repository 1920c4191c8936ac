-- The text of a statement.
use Rattle.std.specs.Prelude.{ℕ, List, [], ◌∷◌, ◌++◌, codes}
use Rattle.csv.specs.Writing.{default_writer, row_text}
use Rattle.amount.specs.Decimal.{decimal_of}
use Rattle.records.specs.declared.side.Side.{Side}
use Rattle.records.specs.declared.side.Side.TheVariants.{Debit, Credit}
use Rattle.records.specs.declared.statement_row.Kind.{Kind}
use Rattle.records.specs.declared.statement_row.Kind.TheVariants.{Single, Pending, Post, Void}
use Rattle.records.specs.declared.statement_row.StatementRow.{StatementRow}

-- what names the columns
abbrev pub column_names : List ℕ
column_names =
    codes "timestamp,transfer_id,side,kind,amount,"
    ++ codes "debits_pending,debits_posted,credits_pending,credits_posted"

-- the first line, with its line feed
unfoldable pub header_line : List ℕ
header_line = column_names ++ 10 ∷ []

-- the side of an entry
abbrev pub side_name : Side → List ℕ
side_name Debit = codes "debit"
side_name Credit = codes "credit"

-- what kind it is
abbrev pub kind_name : Kind → List ℕ
kind_name Single = codes "single"
kind_name Pending = codes "pending"
kind_name Post = codes "post"
kind_name Void = codes "void"

-- the fields of an entry's line, in the order of the columns
abbrev pub fields_of : StatementRow → List (List ℕ)
fields_of row =
    decimal_of row.timestamp
    ∷ decimal_of row.transfer_id
    ∷ side_name row.side
    ∷ kind_name row.kind
    ∷ decimal_of row.amount
    ∷ decimal_of row.balances.debits.pending
    ∷ decimal_of row.balances.debits.posted
    ∷ decimal_of row.balances.credits.pending
    ∷ decimal_of row.balances.credits.posted
    ∷ []

-- an entry's line: the record that `csv` writes of its fields, which ends with a line feed
unfoldable pub line_of : StatementRow → List ℕ
line_of row = row_text default_writer (fields_of row)

-- the lines of entries, one after the other
abbrev pub lines_of : List StatementRow → List ℕ
lines_of [] = []
lines_of (row ∷ rows) = line_of row ++ lines_of rows

-- a whole statement
abbrev pub statement_text : List StatementRow → List ℕ
statement_text rows = header_line ++ lines_of rows

-- what has gone out once some rows have: their statement; without one not even the header
abbrev pub begun_text : List StatementRow → List ℕ
begun_text [] = []
begun_text (row ∷ rows) = statement_text (row ∷ rows)
