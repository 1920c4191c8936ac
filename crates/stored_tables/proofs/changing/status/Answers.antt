use Rattle.std.proofs.Common.{rules, IfSome}
use Rattle.rows.specs.Widths.{IsStorableStatus}
use Rattle.stored_tables.specs.Moves.{IsStatusOf}
use Rattle.stored_tables.proofs.ChangedRows.{both_ok}
use Rattle.stored_tables.proofs.Numbers.{passed}
use Rattle.stored_tables.proofs.Statements.{status_found}
use Rattle.stored_tables.proofs.changing.status.Goals as goal

pub returns : goal.returns
returns g c = record {
  ok = λ clean ledger.
      let t = c.args.tenant.0 in
      let s0 = g.T.LedgerTables.state c.args.tables.now in
      let s1 = g.T.LedgerTables.state c.find_status.new.self in
      both_ok c.find_status.result (λ found. IfSome found IsStorableStatus) _ (IsStatusOf t c.args.id s0.now.trees)
      (λ found fits picks. status_found t s0 s1 ledger c.columns_keep_order.ensures.one_to_one c.found_by_key.ensures.alone c.cells_tell_rows.ensures c.args.id found c.ranges.id.fits fits picks)
      c.find_status.ensures.fits
      (rw (passed t (search rules)) at (c.find_status.ensures.ok clean ledger));
  fits = c.find_status.ensures.fits;
  reads = c.find_status.ensures.reads;
}
