-- What a new writer has written of a statement that breaks off.
use Rattle.std.proofs.Common.{◌≡◌, ◌∙◌, ◌∷◌, ◌++◌, ℕ, Bool, true, false, cond, List, [], Option, ap, sym, refl, subst, append_assoc, append-nil}
use Rattle.std.specs.Io.KnownBytes.{Appends}
use Rattle.std.proofs.KnownBytes.{Appends-nil, Appends-trans}
use Rattle.records.specs.Streams.{AppendsFront, TakesRows}
use Rattle.records.specs.declared.row_sink.SinkFault.{SinkFault}
use Rattle.records.specs.declared.statement_row.StatementRow.{StatementRow}
use Rattle.statement.specs.Laws.{BeginAStatement}
use Rattle.statement.specs.Text.{begun_text, header_line, line_of, lines_of, statement_text}
use Rattle.statement.specs.Writer.{RefusesRow, TakesRow, drain_of, has_begun, header_left}
use Rattle.statement.specs.declared.writer.StatementWriter.{StatementWriter}
use Rattle.statement.proofs.Fronts.{front_after, front_as, front_of_more}

-- the lines of some rows and of more
lines_both : (rows more : List StatementRow) → lines_of (rows ++ more) ≡ lines_of rows ++ lines_of more
lines_both [] more = refl
lines_both (row ∷ rows) more =
    ap (λ (xs : List ℕ). line_of row ++ xs) (lines_both rows more)
    ∙ sym (append_assoc (line_of row) (lines_of rows) (lines_of more))

module _ {W : Type 0} (written : W → Option (List ℕ)) where
  -- behind the header the lines go out, and nothing else
  lines_sent : (s t : StatementWriter W) (rows : List StatementRow) → has_begun s ≡ true → TakesRows (TakesRow written) s rows t
      → Appends (written (drain_of s)) (written (drain_of t)) (lines_of rows) × (has_begun t ≡ true)
  lines_sent s t [] begun taken = (
    subst (λ (x : StatementWriter W). Appends (written (drain_of s)) (written (drain_of x)) []) taken (Appends-nil (written (drain_of s))),
    ap has_begun (sym taken) ∙ begun,
  )
  lines_sent s t (row ∷ rows) begun taken =
      let m = taken.0 in
      let first : Appends (written (drain_of s)) (written (drain_of m)) (line_of row) =
      subst (λ (b : Bool). Appends (written (drain_of s)) (written (drain_of m)) (cond b [] header_line ++ line_of row)) begun taken.1.line in
      let later = lines_sent m t rows taken.1.begun taken.2 in
      (Appends-trans _ _ _ (line_of row) (lines_of rows) first later.0, later.1)

  -- so do the header and the lines of the first rows
  first_sent : (s t : StatementWriter W) (row : StatementRow) (rows : List StatementRow) → has_begun s ≡ false → TakesRows (TakesRow written) s (row ∷ rows) t
      → Appends (written (drain_of s)) (written (drain_of t)) (statement_text (row ∷ rows)) × (has_begun t ≡ true)
  first_sent s t row rows fresh taken =
      let m = taken.0 in
      let first : Appends (written (drain_of s)) (written (drain_of m)) (header_line ++ line_of row) =
      subst (λ (b : Bool). Appends (written (drain_of s)) (written (drain_of m)) (cond b [] header_line ++ line_of row)) fresh taken.1.line in
      let later = lines_sent m t rows taken.1.begun taken.2 in (
        subst (Appends (written (drain_of s)) (written (drain_of t))) (append_assoc header_line (line_of row) (lines_of rows))
            (Appends-trans _ _ _ (header_line ++ line_of row) (lines_of rows) first later.0),
        later.1,
      )

  taken_rows : (new last : StatementWriter W) (rows : List StatementRow) → has_begun new ≡ false → TakesRows (TakesRow written) new rows last
      → Appends (written (drain_of new)) (written (drain_of last)) (begun_text rows)
  taken_rows new last [] fresh taken =
      subst (λ (x : StatementWriter W). Appends (written (drain_of new)) (written (drain_of x)) []) taken (Appends-nil (written (drain_of new)))
  taken_rows new last (row ∷ rows) fresh taken = (first_sent new last row rows fresh taken).0

  refused_row : (new last left : StatementWriter W) (rows : List StatementRow) (row : StatementRow) (more : List StatementRow) (why : SinkFault) → has_begun new ≡ false
      → TakesRows (TakesRow written) new rows last → RefusesRow written last row why left
      → AppendsFront (written (drain_of new)) (written (drain_of left)) (statement_text (rows ++ row ∷ more))
  refused_row new last left [] row more why fresh taken refused =
      let begun : has_begun last ≡ false = ap has_begun (sym taken) ∙ fresh in
      let front : AppendsFront (written (drain_of last)) (written (drain_of left)) (header_line ++ line_of row) =
      subst (λ (b : Bool). AppendsFront (written (drain_of last)) (written (drain_of left)) (cond b [] header_line ++ line_of row)) begun refused.front in
      subst (λ (x : StatementWriter W). AppendsFront (written (drain_of x)) (written (drain_of left)) (statement_text (row ∷ more))) (sym taken)
      (front_as _ _ _ _ (append_assoc header_line (line_of row) (lines_of more)) (front_of_more _ _ (header_line ++ line_of row) (lines_of more) front))
  refused_row new last left (first ∷ rows) row more why fresh taken refused =
      let sent = first_sent new last first rows fresh taken in
      let front : AppendsFront (written (drain_of last)) (written (drain_of left)) (line_of row) =
      subst (λ (b : Bool). AppendsFront (written (drain_of last)) (written (drain_of left)) (cond b [] header_line ++ line_of row)) sent.1 refused.front in
      front_as _ _ _ _
      (append_assoc header_line (lines_of (first ∷ rows)) (line_of row ++ lines_of more)
      ∙ ap (λ (xs : List ℕ). header_line ++ xs) (sym (lines_both (first ∷ rows) (row ∷ more))))
      (front_after _ _ _ (statement_text (first ∷ rows)) (line_of row ++ lines_of more) sent.0
      (front_of_more _ _ (line_of row) (lines_of more) front))

  cut_header : (new last : StatementWriter W) (rows : List StatementRow) (end : Option (List ℕ)) → has_begun new ≡ false → TakesRows (TakesRow written) new rows last
      → AppendsFront (written (drain_of last)) end (header_left last) → AppendsFront (written (drain_of new)) end (statement_text rows)
  cut_header new last [] end fresh taken cut =
      let begun : has_begun last ≡ false = ap has_begun (sym taken) ∙ fresh in
      let front : AppendsFront (written (drain_of last)) end header_line =
      subst (λ (b : Bool). AppendsFront (written (drain_of last)) end (cond b [] header_line)) begun cut in
      subst (λ (x : StatementWriter W). AppendsFront (written (drain_of x)) end (statement_text [])) (sym taken) (front_of_more _ _ header_line [] front)
  cut_header new last (row ∷ rows) end fresh taken cut =
      let sent = first_sent new last row rows fresh taken in
      let front : AppendsFront (written (drain_of last)) end [] =
      subst (λ (b : Bool). AppendsFront (written (drain_of last)) end (cond b [] header_line)) sent.1 cut in
      front_as _ _ _ _ (append-nil (statement_text (row ∷ rows))) (front_after _ _ _ (statement_text (row ∷ rows)) [] sent.0 front)

  pub rows_begin : BeginAStatement written
  rows_begin = record { taken = taken_rows; refused = refused_row; ended = cut_header }
