-- What is seen of a writer of statements.
use Rattle.std.specs.Prelude.{◌≡◌, ◌++◌, ℕ, Bool, true, [], List, Option, if◌then◌else◌}
use Rattle.std.specs.Io.KnownBytes.{Appends}
use Rattle.records.specs.Streams.{AppendsFront}
use Rattle.records.specs.declared.row_sink.SinkFault.{SinkFault}
use Rattle.records.specs.declared.row_sink.SinkFault.TheVariants.{Memory}
use Rattle.records.specs.declared.statement_row.StatementRow.{StatementRow}
use Rattle.statement.specs.Text.{header_line, line_of}
use Rattle.statement.specs.declared.writer.StatementWriter.{StatementWriter}

-- what it writes to
abbrev pub drain_of : {W : Type 0} → StatementWriter W → W
drain_of s = s.writer

-- whether the header has gone out
abbrev pub has_begun : {W : Type 0} → StatementWriter W → Bool
has_begun s = s.has_begun

-- the line that it made last
abbrev pub last_line : {W : Type 0} → StatementWriter W → List ℕ
last_line s = s.line.items

-- the header, where it is still to go out
abbrev pub header_left : {W : Type 0} → StatementWriter W → List ℕ
header_left s = if has_begun s then [] else header_line

-- it takes a row: the row's line goes out, behind the header if this is the first
pub record TakesRow {W : Type 0} (written : W → Option (List ℕ)) (s : StatementWriter W)
    (row : StatementRow) (t : StatementWriter W) : Type 0 where
  pub begun : has_begun t ≡ true
  pub line : Appends (written (drain_of s)) (written (drain_of t)) (header_left s ++ line_of row)

-- it refuses a row: a beginning of what taking it writes has gone out; nothing, where memory ran
-- out
pub record RefusesRow {W : Type 0} (written : W → Option (List ℕ)) (s : StatementWriter W)
    (row : StatementRow) (why : SinkFault) (t : StatementWriter W) : Type 0 where
  pub front : AppendsFront (written (drain_of s)) (written (drain_of t))
      (header_left s ++ line_of row)
  pub memory : why ≡ Memory → drain_of t ≡ drain_of s
