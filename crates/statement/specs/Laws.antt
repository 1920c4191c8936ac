-- What the words of the contracts say, taken together.
use Rattle.std.specs.Prelude.{◌≡◌, ◌∷◌, ◌++◌, ℕ, [], List, Option, false}
use Rattle.std.specs.List.{join_with_byte}
use Rattle.std.specs.Io.KnownBytes.{Appends}
use Rattle.records.specs.Streams.{AppendsFront, TakesRows}
use Rattle.records.specs.declared.balances.Balances.{Balances}
use Rattle.records.specs.declared.row_sink.SinkFault.{SinkFault}
use Rattle.records.specs.declared.statement_row.StatementRow.{StatementRow}
use Rattle.records.specs.declared.transfer.Transfer.{Transfer}
use Rattle.statement.specs.Text.{begun_text, fields_of, line_of, statement_text}
use Rattle.statement.specs.Written.{extract_text}
use Rattle.statement.specs.Writer.{RefusesRow, TakesRow, drain_of, has_begun, header_left}
use Rattle.statement.specs.declared.form.Form.TheVariants.{Csv}
use Rattle.statement.specs.declared.layout.Layout.{Layout}
use Rattle.statement.specs.declared.writer.StatementWriter.{StatementWriter}

-- each line is its fields with commas (44) between them, and a line feed (10)
abbrev pub AreLinesPlain : Type 0
AreLinesPlain =
    (row : StatementRow) → line_of row ≡ join_with_byte 44 (fields_of row) ++ 10 ∷ []

-- a new writer that takes some rows, and then writes the header if it is still to go out, has
-- written their statement
abbrev pub MakeRowsAStatement : {W : Type 0} → (W → Option (List ℕ)) → Type 0
MakeRowsAStatement {W} written =
    (new last : StatementWriter W) (rows : List StatementRow) (end : Option (List ℕ))
    → has_begun new ≡ false
    → TakesRows (TakesRow written) new rows last
    → Appends (written (drain_of last)) end (header_left last)
    → Appends (written (drain_of new)) end (statement_text rows)

-- what a new writer has written of a statement that breaks off: behind some rows their lines; where
-- it refused the next row, or its header was cut off at the end, a beginning of the statement
pub record BeginAStatement {W : Type 0} (written : W → Option (List ℕ)) : Type 0 where
  pub taken :
      (new last : StatementWriter W) (rows : List StatementRow) → has_begun new ≡ false
      → TakesRows (TakesRow written) new rows last
      → Appends (written (drain_of new)) (written (drain_of last)) (begun_text rows)
  pub refused :
      (new last left : StatementWriter W) (rows : List StatementRow) (row : StatementRow)
      (more : List StatementRow) (why : SinkFault) → has_begun new ≡ false
      → TakesRows (TakesRow written) new rows last → RefusesRow written last row why left
      → AppendsFront (written (drain_of new)) (written (drain_of left))
      (statement_text (rows ++ row ∷ more))
  pub ended :
      (new last : StatementWriter W) (rows : List StatementRow) (end : Option (List ℕ))
      → has_begun new ≡ false → TakesRows (TakesRow written) new rows last
      → AppendsFront (written (drain_of last)) end (header_left last)
      → AppendsFront (written (drain_of new)) end (statement_text rows)

-- lines of CSV as the service tells them, without sums
abbrev pub plain_layout : Layout
plain_layout = record { form = Csv; is_wide = false; with_sums = false }

-- so written, entries of a period are the statement of these entries
abbrev pub AreExtractsPlain : Type 0
AreExtractsPlain =
    (rows : List StatementRow) (transfers : List Transfer) (before behind : Balances)
    → extract_text plain_layout before rows transfers behind ≡ statement_text rows
