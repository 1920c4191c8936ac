-- What a statement's writer has written where the statement breaks off, as the fault tells it.
use Rattle.std.proofs.Common.{◌≡◌, ◌∙◌, ◌∷◌, ◌++◌, ℕ, false, List, [], Option, Result, Ok, Err, length, take, ap, arith, refl, sym, subst, take_all}
use Rattle.std.proofs.lemmas.List.{take-append-le}
use Rattle.std.specs.Io.KnownBytes.{Appends}
use Rattle.records.specs.Streams.{AppendsFront}
use Rattle.records.specs.declared.row_sink.SinkFault.TheVariants.{Write, Memory}
use Rattle.records.specs.declared.statement_row.StatementRow.{StatementRow}
use Rattle.chain.specs.LedgerReads.{HandsOut, RefusesNext, Seen, rows_of}
use Rattle.chain.specs.declared.reads.ReadFault.{ReadFault}
use Rattle.chain.specs.declared.reads.ReadFault.TheVariants as read
use Rattle.statement.specs.Laws.{BeginAStatement}
use Rattle.statement.specs.Text.{begun_text, statement_text}
use Rattle.statement.specs.Writer.{RefusesRow, TakesRow, drain_of, has_begun}
use Rattle.statement.specs.declared.writer.StatementWriter.{StatementWriter}
use Rattle.command_texts.specs.declared.fault.Fault.{Fault}
use Rattle.command_texts.specs.declared.fault.Fault.TheVariants.{Output}
use Rattle.admin_client.specs.Statements.{HasBegunLines, IsStatementTold, statement_fault}

none_is_some : (front : List StatementRow) (row : StatementRow) (rest : List StatementRow) → front ++ row ∷ rest ≡ [] → ⊥
none_is_some [] row rest is = cc
none_is_some (first ∷ front) row rest is = cc

first_rows : (front rest rows : List StatementRow) → front ++ rest ≡ rows → take (length front) rows ≡ front
first_rows front rest rows is =
    ap (take (length front)) (sym is) ∙ take-append-le (length front) front rest (omega arith) ∙ take_all (length front) front (omega arith)

module _ {W : Type 0} (written : W → Option (List ℕ)) (law : BeginAStatement written) (new : StatementWriter W) (fresh : has_begun new ≡ false) where
  -- a write failed at a row
  cut :
      (seen : Result (Seen (List StatementRow)) ReadFault) (left : StatementWriter W)
      → RefusesNext (TakesRow written) (RefusesRow written) (rows_of seen) Write new left
      → IsStatementTold written seen (drain_of new) (drain_of left) (Err Output)
  cut (Ok answer) left next = (
    answer,
    refl,
    subst (λ (rows : List StatementRow). AppendsFront (written (drain_of new)) (written (drain_of left)) (statement_text rows)) next.whole
        (law.refused new next.last left next.front next.next next.rest Write fresh next.taken next.refused),
  )
  cut (Err why) left next = absurd (none_is_some next.front next.next next.rest next.whole)

  -- memory ran out at a row
  short :
      (rows : List StatementRow) (left : StatementWriter W)
      → RefusesNext (TakesRow written) (RefusesRow written) rows Memory new left
      → HasBegunLines written rows (drain_of new) (drain_of left)
  short rows left next = record {
    count = length next.front;
    lines = subst (λ (w : W). Appends (written (drain_of new)) (written w) (begun_text (take (length next.front) rows)))
        (sym (next.refused.memory refl))
        (subst (λ (some : List StatementRow). Appends (written (drain_of new)) (written (drain_of next.last)) (begun_text some))
        (sym (first_rows next.front (next.next ∷ next.rest) rows next.whole))
        (law.taken new next.last next.front fresh next.taken));
  }

  at_fault :
      (seen : Result (Seen (List StatementRow)) ReadFault) (left : StatementWriter W) (why : ReadFault)
      → HandsOut (TakesRow written) (RefusesRow written) seen new left (Err why)
      → IsStatementTold written seen (drain_of new) (drain_of left) (Err (statement_fault why))
  at_fault seen left read.UnknownKey told = (told.0, ap drain_of told.1)
  at_fault seen left read.NoAccount told = (told.0, ap drain_of told.1)
  at_fault seen left read.NoHistory told = absurd told
  at_fault seen left (read.Unavailable why) told =
      record { count = told.count; lines = law.taken new left (take told.count (rows_of seen)) fresh told.taken }
  at_fault seen left (read.Sink Write) told = cut seen left told
  at_fault seen left (read.Sink Memory) told = short (rows_of seen) left told

  -- the rows break off, and the writer is given back
  pub broken_off :
      (seen : Result (Seen (List StatementRow)) ReadFault) (left : StatementWriter W) (why : ReadFault) (old end : W) (fault : Fault)
      → drain_of new ≡ old → end ≡ drain_of left → fault ≡ statement_fault why
      → HandsOut (TakesRow written) (RefusesRow written) seen new left (Err why)
      → IsStatementTold written seen old end (Err fault)
  broken_off seen left why old end fault over end_is fault_is told =
      subst (λ (w : W). IsStatementTold written seen w end (Err fault)) over
      (subst (λ (w : W). IsStatementTold written seen (drain_of new) w (Err fault)) (sym end_is)
      (subst (λ (f : Fault). IsStatementTold written seen (drain_of new) (drain_of left) (Err f)) (sym fault_is)
      (at_fault seen left why told)))
