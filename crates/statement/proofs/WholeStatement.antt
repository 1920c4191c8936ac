-- Rows that a new writer took are a statement.
use Rattle.std.proofs.Common.{◌∷◌, ◌++◌, ℕ, Bool, cond, List, [], Option, sym, subst, append_assoc, append-nil}
use Rattle.std.specs.Io.KnownBytes.{Appends}
use Rattle.std.proofs.KnownBytes.{Appends-trans}
use Rattle.records.specs.Streams.{TakesRows}
use Rattle.records.specs.declared.statement_row.StatementRow.{StatementRow}
use Rattle.statement.specs.Laws.{MakeRowsAStatement}
use Rattle.statement.specs.Text.{header_line, line_of, lines_of}
use Rattle.statement.specs.Writer.{TakesRow, drain_of, header_left}
use Rattle.statement.specs.declared.writer.StatementWriter.{StatementWriter}

module _ {W : Type 0} (written : W → Option (List ℕ)) where
  rows_sent : (s t : StatementWriter W) (rows : List StatementRow) (end : Option (List ℕ)) → TakesRows (TakesRow written) s rows t
      → Appends (written (drain_of t)) end (header_left t) → Appends (written (drain_of s)) end (header_left s ++ lines_of rows)
  rows_sent s t [] end taken ended =
      subst (λ (x : StatementWriter W). Appends (written (drain_of x)) end (header_left x ++ [])) (sym taken)
      (subst (Appends (written (drain_of t)) end) (sym (append-nil (header_left t))) ended)
  rows_sent s t (row ∷ rows) end taken ended =
      let m = taken.0 in
      let later = rows_sent m t rows end taken.2 ended in
      let lines : Appends (written (drain_of m)) end (lines_of rows) =
      subst (λ (b : Bool). Appends (written (drain_of m)) end (cond b [] header_line ++ lines_of rows)) taken.1.begun later in
      subst (Appends (written (drain_of s)) end) (append_assoc (header_left s) (line_of row) (lines_of rows))
      (Appends-trans _ _ _ (header_left s ++ line_of row) (lines_of rows) taken.1.line lines)

  pub rows_make : MakeRowsAStatement written
  rows_make new last rows end fresh taken ended =
      subst (λ (b : Bool). Appends (written (drain_of new)) end (cond b [] header_line ++ lines_of rows)) fresh
      (rows_sent new last rows end taken ended)
