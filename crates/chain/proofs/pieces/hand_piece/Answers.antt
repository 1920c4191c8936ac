use Rattle.std.proofs.Common.{◌≤◌, sym, ◌∙◌, subst}
use Rattle.records.specs.Step.{max_clock}
use Rattle.chain.specs.declared.account_entry.AccountEntry.{AccountEntry}
use Rattle.chain.specs.AccountEntries.{entry_time, row_of}
use Rattle.chain.proofs.TakenRows.{one_row, behind_more}
use Rattle.chain.proofs.pieces.hand_piece.Goals as goal

pub loop-entry-preserved : goal.loop-entry-preserved
loop-entry-preserved g c =
    let entries = c.args.entries.now in
    let place = c.loop-entry.entry-index in
    let entry = c.entry-item.result in (
      one_row g.S.RowSink.takes c.args.sink.now c.loop-entry.sink c.row.new.self (row_of c.args.account)
          c.statement_row.result entries place entry c.loop-entry-test.true c.entry-item.is c.statement_row.ensures
          c.loop-entry.invariant.0 c.in_ok-row.ensures.taken,
      λ bounded.
          c.time_behind-behind.ensures
          (subst (λ (e : AccountEntry). entry_time e ≤ max_clock) (sym c.entry-item.is) (bounded place entry c.loop-entry-test.true))
          ∙ sym (behind_more entry_time c.args.span.now.order entries place entry c.loop-entry-test.true c.entry-item.is),
    )
