use Rattle.std.proofs.Common.{◌≡◌, ◌≤◌, List, Result, Err, map, refl, ap, sym, ◌∙◌, subst, arith}
use Rattle.std.specs.List.{All}
use Rattle.std.proofs.lemmas.Result.{err_from_is_err_and}
use Rattle.records.specs.Reads.{statement_answer}
use Rattle.records.specs.Step.{max_clock}
use Rattle.records.specs.Streams.{TakesRows}
use Rattle.chain.specs.declared.account_entry.AccountEntry.{AccountEntry}
use Rattle.chain.specs.declared.reads.ReadFault.{ReadFault}
use Rattle.chain.specs.AccountEntries.{entry_time, piece_behind, row_of}
use Rattle.chain.specs.LedgerReads.{HandsOut, RefusesNext, seen_in}
use Rattle.chain.proofs.LookLemmas.{account_answered, account_refused, not_answered, refused_so}
use Rattle.chain.proofs.StatementPieces.{IsReading, all_handed, as_reads, broken, goes_on, read_finds, read_on, reading_begins, reading_begun, same_fault, sink_refused, told_answered}
use Rattle.chain.proofs.ledgers.Ledgers.each_statement_row.Goals as goal

pub pieces-init : goal.pieces-init
pieces-init g c = (
  subst (λ span. IsReading g.Self.Ledgers.means g.S.RowSink.takes c.args.digest.now c.args.account c.args.order c.args.self.now c.args.self.now span c.args.sink.now c.args.sink.now)
      (sym c.first_piece-span.ensures)
      (reading_begins g.Self.Ledgers.means g.S.RowSink.takes c.args.digest.now c.args.account c.args.order c.args.self.now c.args.sink.now
      (g.met.Self.Ledgers.stays c.args.self.now) (λ live. g.met.Self.Ledgers.valid c.args.self.now live)),
  λ failed. refl,
)

pub returns-in_err-found-clause-told : goal.returns-in_err-found-clause-told
returns-in_err-found-clause-told g c live =
    let p = err_from_is_err_and c.from_residual.result c.from_residual.ensures.1 in
    subst (λ (r : Result (Unit {0}) ReadFault). HandsOut g.S.RowSink.takes g.S.RowSink.refuses (seen_in (λ m. statement_answer m c.args.account c.args.order) (g.Self.Ledgers.means.tenants c.args.self.now c.args.digest.now)) c.args.sink.now c.pieces.sink r)
    (sym (p.1 ∙ ap Err p.2))
    (broken g.Self.Ledgers.means g.S.RowSink.takes c.args.digest.now c.args.account c.args.order
    c.args.self.now c.pieces.self c.in_batch.new.self c.pieces.span c.in_batch.result g.met.Self.Ledgers.then g.met.Self.Ledgers.lived
    c.in_batch.ensures.run c.in_batch.ensures.follows c.in_batch.ensures.finds g.S.RowSink.refuses c.args.sink.now c.pieces.sink c.pieces.invariant.0 _ (sym c.account_answer.ensures ∙ c.in_err-found.was) live)

pub returns-in_err-found-clause-finds : goal.returns-in_err-found-clause-finds
returns-in_err-found-clause-finds g c =
    let p = err_from_is_err_and c.from_residual.result c.from_residual.ensures.1 in
    read_finds g.Self.Ledgers.means g.S.RowSink.takes c.args.digest.now c.args.account c.args.order
    c.args.self.now c.pieces.self c.in_batch.new.self c.pieces.span c.in_batch.result g.met.Self.Ledgers.then g.met.Self.Ledgers.lived
    c.in_batch.ensures.run c.in_batch.ensures.follows c.in_batch.ensures.finds c.pieces.invariant.0.read
    (λ told. account_answered c.in_batch.result c.account_answer.result c.account_answer.ensures
    (same_fault c.from_residual.result c.account_answer.result _ (p.1 ∙ ap Err p.2) c.in_err-found.was told))

pub returns-in_err-found-clause-reads : goal.returns-in_err-found-clause-reads
returns-in_err-found-clause-reads g c =
    as_reads g.Self.Ledgers.means c.args.self.now c.in_batch.new.self (read_on g.Self.Ledgers.means g.S.RowSink.takes c.args.digest.now c.args.account c.args.order
    c.args.self.now c.pieces.self c.in_batch.new.self c.pieces.span c.in_batch.result g.met.Self.Ledgers.then g.met.Self.Ledgers.lived
    c.in_batch.ensures.run c.in_batch.ensures.follows c.in_batch.ensures.finds c.pieces.invariant.0.read)

pub returns-in_err-next-clause-told : goal.returns-in_err-next-clause-told
returns-in_err-next-clause-told g c live =
    let p = err_from_is_err_and c.from_residual-in_err-next.result c.from_residual-in_err-next.ensures.1 in
    subst (λ (r : Result (Unit {0}) ReadFault). HandsOut g.S.RowSink.takes g.S.RowSink.refuses (seen_in (λ m. statement_answer m c.args.account c.args.order) (g.Self.Ledgers.means.tenants c.args.self.now c.args.digest.now)) c.args.sink.now c.hand_piece.new.sink r)
    (sym (p.1 ∙ ap Err p.2))
    (sink_refused g.Self.Ledgers.means g.S.RowSink.takes c.args.digest.now c.args.account c.args.order
    c.args.self.now c.pieces.self c.in_batch.new.self c.pieces.span c.in_batch.result g.met.Self.Ledgers.then g.met.Self.Ledgers.lived
    c.in_batch.ensures.run c.in_batch.ensures.follows c.in_batch.ensures.finds g.S.RowSink.refuses c.args.sink.now c.pieces.sink c.pieces.invariant.0
    c.in_ok-found.found (sym c.account_answer.ensures ∙ c.in_ok-found.was)
    (λ live. g.met.Self.Ledgers.valid c.pieces.self live) _ c.hand_piece.new.sink
    (subst (λ (es : List AccountEntry). RefusesNext g.S.RowSink.takes g.S.RowSink.refuses (map (row_of c.args.account) es) c.in_err-next.field-0.0 c.pieces.sink c.hand_piece.new.sink) c.deref.ensures.value c.in_err-next.ensures.err) live)

pub returns-in_err-next-clause-finds : goal.returns-in_err-next-clause-finds
returns-in_err-next-clause-finds g c =
    read_finds g.Self.Ledgers.means g.S.RowSink.takes c.args.digest.now c.args.account c.args.order
    c.args.self.now c.pieces.self c.in_batch.new.self c.pieces.span c.in_batch.result g.met.Self.Ledgers.then g.met.Self.Ledgers.lived
    c.in_batch.ensures.run c.in_batch.ensures.follows c.in_batch.ensures.finds c.pieces.invariant.0.read
    (λ told. told_answered g.Self.Ledgers.means g.S.RowSink.takes c.args.digest.now c.args.account c.args.order c.in_batch.result c.in_ok-found.found (sym c.account_answer.ensures ∙ c.in_ok-found.was))

pub returns-in_err-next-clause-reads : goal.returns-in_err-next-clause-reads
returns-in_err-next-clause-reads g c =
    as_reads g.Self.Ledgers.means c.args.self.now c.in_batch.new.self (read_on g.Self.Ledgers.means g.S.RowSink.takes c.args.digest.now c.args.account c.args.order
    c.args.self.now c.pieces.self c.in_batch.new.self c.pieces.span c.in_batch.result g.met.Self.Ledgers.then g.met.Self.Ledgers.lived
    c.in_batch.ensures.run c.in_batch.ensures.follows c.in_batch.ensures.finds c.pieces.invariant.0.read)

pub returns-in_default-clause-told : goal.returns-in_default-clause-told
returns-in_default-clause-told g c live =
    all_handed g.Self.Ledgers.means g.S.RowSink.takes c.args.digest.now c.args.account c.args.order
    c.args.self.now c.pieces.self c.in_batch.new.self c.pieces.span c.in_batch.result g.met.Self.Ledgers.then g.met.Self.Ledgers.lived
    c.in_batch.ensures.run c.in_batch.ensures.follows c.in_batch.ensures.finds g.S.RowSink.refuses c.args.sink.now c.pieces.sink c.pieces.invariant.0
    c.in_ok-found.found (sym c.account_answer.ensures ∙ c.in_ok-found.was)
    (λ live. g.met.Self.Ledgers.valid c.pieces.self live)
    c.in_ok-next.field-0 c.hand_piece.new.sink
    (subst (λ (es : List AccountEntry). All (λ entry. entry_time entry ≤ max_clock) es → c.in_ok-next.field-0 ≡ piece_behind c.pieces.span es) c.deref.ensures.value c.in_ok-next.ensures.next)
    c.in_default.is
    (subst (λ (es : List AccountEntry). TakesRows g.S.RowSink.takes c.pieces.sink (map (row_of c.args.account) es) c.hand_piece.new.sink) c.deref.ensures.value c.in_ok-next.ensures.ok)
    live

pub returns-in_default-clause-finds : goal.returns-in_default-clause-finds
returns-in_default-clause-finds g c =
    read_finds g.Self.Ledgers.means g.S.RowSink.takes c.args.digest.now c.args.account c.args.order
    c.args.self.now c.pieces.self c.in_batch.new.self c.pieces.span c.in_batch.result g.met.Self.Ledgers.then g.met.Self.Ledgers.lived
    c.in_batch.ensures.run c.in_batch.ensures.follows c.in_batch.ensures.finds c.pieces.invariant.0.read
    (λ told. told_answered g.Self.Ledgers.means g.S.RowSink.takes c.args.digest.now c.args.account c.args.order c.in_batch.result c.in_ok-found.found (sym c.account_answer.ensures ∙ c.in_ok-found.was))

pub returns-in_default-clause-reads : goal.returns-in_default-clause-reads
returns-in_default-clause-reads g c =
    as_reads g.Self.Ledgers.means c.args.self.now c.in_batch.new.self (read_on g.Self.Ledgers.means g.S.RowSink.takes c.args.digest.now c.args.account c.args.order
    c.args.self.now c.pieces.self c.in_batch.new.self c.pieces.span c.in_batch.result g.met.Self.Ledgers.then g.met.Self.Ledgers.lived
    c.in_batch.ensures.run c.in_batch.ensures.follows c.in_batch.ensures.finds c.pieces.invariant.0.read)

pub pieces-preserved : goal.pieces-preserved
pieces-preserved g c = (
  goes_on g.Self.Ledgers.means g.S.RowSink.takes c.args.digest.now c.args.account c.args.order
      c.args.self.now c.pieces.self c.in_batch.new.self c.pieces.span c.in_batch.result g.met.Self.Ledgers.then g.met.Self.Ledgers.lived
      c.in_batch.ensures.run c.in_batch.ensures.follows c.in_batch.ensures.finds g.S.RowSink.refuses c.args.sink.now c.pieces.sink c.pieces.invariant.0
      c.in_ok-found.found (sym c.account_answer.ensures ∙ c.in_ok-found.was)
      (λ live. g.met.Self.Ledgers.valid c.pieces.self live)
      c.in_ok-next.field-0 c.in-Some.next c.hand_piece.new.sink
      (subst (λ (es : List AccountEntry). All (λ entry. entry_time entry ≤ max_clock) es → c.in_ok-next.field-0 ≡ piece_behind c.pieces.span es) c.deref.ensures.value c.in_ok-next.ensures.next)
      c.in-Some.is
      (subst (λ (es : List AccountEntry). TakesRows g.S.RowSink.takes c.pieces.sink (map (row_of c.args.account) es) c.hand_piece.new.sink) c.deref.ensures.value c.in_ok-next.ensures.ok),
  λ failed. absurd (not_answered c.account_answer.result c.in_ok-found.found c.in_ok-found.was
      (account_refused c.in_batch.result c.account_answer.result c.account_answer.ensures
      (c.in_batch.ensures.failed (g.met.Self.Ledgers.fails c.args.self.now c.pieces.self c.pieces.invariant.0.read.follows failed)))),
)

pub returns-clause-told : goal.returns-clause-told
returns-clause-told g c live =
    reading_begun g.Self.Ledgers.means g.S.RowSink.takes c.args.digest.now c.args.account c.args.order c.args.self.now c.pieces.self c.pieces.span c.args.sink.now c.pieces.sink c.pieces.invariant.0 live

pub returns-in_err-found-clause-failed : goal.returns-in_err-found-clause-failed
returns-in_err-found-clause-failed g c failed =
    let p = err_from_is_err_and c.from_residual.result c.from_residual.ensures.1 in
    refused_so c.from_residual.result c.account_answer.result _ (p.1 ∙ ap Err p.2) c.in_err-found.was
    (account_refused c.in_batch.result c.account_answer.result c.account_answer.ensures
    (c.in_batch.ensures.failed (g.met.Self.Ledgers.fails c.args.self.now c.pieces.self c.pieces.invariant.0.read.follows failed)))

pub returns-in_err-next-clause-failed : goal.returns-in_err-next-clause-failed
returns-in_err-next-clause-failed g c failed =
    absurd (not_answered c.account_answer.result c.in_ok-found.found c.in_ok-found.was
    (account_refused c.in_batch.result c.account_answer.result c.account_answer.ensures
    (c.in_batch.ensures.failed (g.met.Self.Ledgers.fails c.args.self.now c.pieces.self c.pieces.invariant.0.read.follows failed))))

pub returns-in_default-clause-failed : goal.returns-in_default-clause-failed
returns-in_default-clause-failed g c failed =
    absurd (not_answered c.account_answer.result c.in_ok-found.found c.in_ok-found.was
    (account_refused c.in_batch.result c.account_answer.result c.account_answer.ensures
    (c.in_batch.ensures.failed (g.met.Self.Ledgers.fails c.args.self.now c.pieces.self c.pieces.invariant.0.read.follows failed))))

pub returns-clause-failed : goal.returns-clause-failed
returns-clause-failed g c failed = absurd (omega (arith, c.pieces.invariant.1 failed))
