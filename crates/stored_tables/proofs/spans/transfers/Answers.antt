use Rattle.std.proofs.Common.{rules, ◌∙◌}
use Rattle.stored_tables.proofs.Keeping.{found}
use Rattle.stored_tables.proofs.Numbers.{passed}
use Rattle.stored_tables.proofs.SpanRows.{transfers_read}
use Rattle.stored_tables.proofs.spans.transfers.Goals as goal

pub returns-in_default : goal.returns-in_default
returns-in_default g c = record {
  ok = λ clean tenant.
      let held = tenant.holds in
      c.new.ensures.items ∙ (transfers_read _ _ _ held (c.rows_fit.ensures 3 _ held.valid) c.args.span.now c.read_in_order.ensures.ascending (c.rows_stand_in_order.ensures.transfers _ held.valid)).none c.in_default.ensures;
  reads = search rules;
}

pub returns-in-Oldest : goal.returns-in-Oldest
returns-in-Oldest g c =
    found g.T.LedgerTables.state c.args.tenant.0 c.args.tables.now c.oldest_transfers.new.self _ _ _ _
    (λ m trees read held fits. (transfers_read c.args.tenant.0 m trees held (c.rows_fit.ensures 3 m held.valid) c.args.span.now c.read_in_order.ensures.ascending (c.rows_stand_in_order.ensures.transfers m held.valid)).oldest c.in-Oldest.is read.items fits)
    (rw (passed c.args.tenant.0 (search rules), passed c.in-Some.first (search rules), passed c.span_last-last.result (search rules), c.in-Some.ensures, c.span_last-last.ensures) at c.oldest_transfers.ensures)

pub returns-in-Newest : goal.returns-in-Newest
returns-in-Newest g c =
    found g.T.LedgerTables.state c.args.tenant.0 c.args.tables.now c.newest_transfers.new.self _ _ _ _
    (λ m trees read held fits. (transfers_read c.args.tenant.0 m trees held (c.rows_fit.ensures 3 m held.valid) c.args.span.now c.read_in_order.ensures.ascending (c.rows_stand_in_order.ensures.transfers m held.valid)).newest c.in-Newest.is read.items fits)
    (rw (passed c.args.tenant.0 (search rules), passed c.in-Some.first (search rules), passed c.span_last-last.result (search rules), c.in-Some.ensures, c.span_last-last.ensures) at c.newest_transfers.ensures)
