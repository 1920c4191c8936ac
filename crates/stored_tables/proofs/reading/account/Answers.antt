use Rattle.std.proofs.Common.{sym, ap, ◌∙◌, rules}
use Rattle.std.specs.Option.{option_map}
use Rattle.records.specs.Balances.{balances_in}
use Rattle.records.specs.Facts.{with_balances}
use Rattle.sqlite.specs.Effect.{Database}
use Rattle.stored_tables.specs.BatchLaws.{clean_before}
use Rattle.stored_tables.specs.Idle.{machine_at}
use Rattle.stored_tables.specs.MachineOf.{machine_of}
use Rattle.stored_tables.proofs.ExpiryReads.{balances_held}
use Rattle.stored_tables.proofs.Keeping.{still_holds}
use Rattle.stored_tables.proofs.Numbers.{passed}
use Rattle.stored_tables.proofs.ReleasedAll.{apart_for}
use Rattle.stored_tables.proofs.RowsTell.{account_paired}
use Rattle.stored_tables.proofs.reading.account.Goals as goal

pub returns-in_default : goal.returns-in_default
returns-in_default g c = record {
  ok = λ clean tenant.
      let t = c.args.tenant.0 in
      let told = rw (passed t (search rules)) at (c.in_ok-account.ensures.ok clean tenant.schema) in
      let found = c.point_reads.ensures.account t _ _ c.args.id _ tenant.holds c.ranges.id.fits c.in_ok-account.ensures.fits told in
      ap (option_map (with_balances (machine_at t (g.T.LedgerTables.state c.args.tables.now)))) (sym c.in_default.is ∙ found);
  reads = search rules;
}

pub returns : goal.returns
returns g c = record {
  ok = λ clean tenant.
      let t = c.args.tenant.0 in
      let m = machine_at t (g.T.LedgerTables.state c.args.tables.now) in
      let s1 = g.T.LedgerTables.state c.find_account.new.self in
      let before = clean_before s1 _ c.balances.ensures.reads.follows clean in
      let same = c.in_ok-account.ensures.reads.same before in
      let told = rw (passed t (search rules)) at (c.in_ok-account.ensures.ok before tenant.schema) in
      let found = c.point_reads.ensures.account t m _ c.args.id _ tenant.holds c.ranges.id.fits c.in_ok-account.ensures.fits told in
      let then = still_holds t _ s1 same tenant in
      let own = balances_held t c.args.id _ s1.now.trees c.in_ok-balances.balances then.holds (apart_for c.rows_fit.ensures c.keys_are_distinct.ensures _ then.holds.valid) (c.in_ok-balances.ensures.ok clean then.schema) in
      account_paired m c.args.id c.in-Some.account c.in_ok-balances.balances (sym found ∙ c.in-Some.is) (own ∙ ap (λ (db : Database). balances_in (machine_of t db.trees) c.args.id) same.0.now_is);
  reads = search rules;
}
