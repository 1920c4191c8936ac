-- The chunks of a statement's reply.
use Rattle.std.specs.Prelude.{ℕ, zero, suc, Bool, true, false, List, [], ◌∷◌, ◌++◌, length, drop, take, nat_lt, if◌then◌else◌}
use Rattle.records.specs.declared.statement_row.StatementRow.{StatementRow}
use Rattle.ledger_http.specs.Chunks.{chunk}
use Rattle.statement.specs.Text.{header_line, lines_of}

-- how many entries a chunk has
abbrev pub rows_in_a_chunk : ℕ
rows_in_a_chunk = 500

-- the last chunk that has any lines, and the one of no bytes that ends the body
abbrev pub last_chunks : List ℕ → List ℕ
last_chunks [] = chunk []
last_chunks (byte ∷ bytes) = chunk (byte ∷ bytes) ++ chunk []

-- the chunks of a part with these lines
abbrev pub part_chunks : (is_last : Bool) → List ℕ → List ℕ
part_chunks true lines = last_chunks lines
part_chunks false lines = chunk lines

-- the chunks of rows, of which there are at most so many, behind what stands before their lines
abbrev pub chunks_of : ℕ → List ℕ → List StatementRow → List ℕ
chunks_of zero before rows = last_chunks (before ++ lines_of rows)
chunks_of (suc more) before rows =
    if nat_lt (length rows) rows_in_a_chunk then last_chunks (before ++ lines_of rows)
    else chunk (before ++ lines_of (take rows_in_a_chunk rows))
    ++ chunks_of more [] (drop rows_in_a_chunk rows)

-- the chunks of a whole statement
abbrev pub statement_chunks : List StatementRow → List ℕ
statement_chunks rows = chunks_of (length rows) header_line rows
