use Rattle.std.proofs.Common.{rules}
use Rattle.stored_tables.proofs.ExpiryReads.{balances_told}
use Rattle.stored_tables.proofs.Numbers.{passed}
use Rattle.stored_tables.proofs.reading.balances.Goals as goal

pub returns-in-Some : goal.returns-in-Some
returns-in-Some g c = record {
  ok = λ clean ledger.
      balances_told c.args.tenant.0 c.args.account (g.T.LedgerTables.state c.args.tables.now).now.trees c.cells_tell_rows.ensures c.columns_keep_order.ensures.one_to_one c.found_by_key.ensures.alone c.ranges.account.fits c.in_ok-row.field-0 c.in-Some.row c.in-Some.is
      c.in_ok-row.ensures.fits (rw (passed c.args.tenant.0 (search rules)) at (c.in_ok-row.ensures.ok clean ledger));
  reads = search rules;
}
