use Rattle.std.proofs.Common.{rules, ◌≡◌, sym, subst, Ok, Err, Result, IfOk}
use Rattle.records.specs.declared.unavailable.Unavailable.{Unavailable}
use Rattle.records.specs.Machine.{Machine}
use Rattle.chain.specs.AccountEntries.{account_entries_within}
use Rattle.sqlite.specs.State.{HasCleanDisk}
use Rattle.stored_tables.specs.Idle.{machine_at, HoldsTenant}
use Rattle.stored_tables.proofs.Numbers.{passed}
use Rattle.stored_tables.proofs.AccountEntries.{all_fit, in_time_order}
use Rattle.stored_tables.proofs.TakenValue.{taken_items}
use Rattle.stored_tables.proofs.account_entries.account_entries.Goals as goal

each : {A : Type 0} {P Q : A → Type 0} (r : Result A Unavailable) → IfOk r P → ((a : A) → P a → Q a) → IfOk r Q
each (Ok a) p f = f a p
each (Err e) p f = tt

pub returns : goal.returns
returns g c = record {
  ok = λ clean tenant.
      let old = g.T.LedgerTables.state c.args.tables.now in
      let span = c.args.span.now in
      let account = c.args.account in
      let t = c.args.tenant.0 in
      let m : Machine = machine_at t old in
      let held = tenant.holds in
      let fit = c.rows_fit.ensures 3 m held.valid in
      let up = c.rows_stand_in_order.ensures.transfers m held.valid in
      let one = c.columns_keep_order.ensures.one_to_one in
      let handed = rw (passed c.span_begin-begin.result (search rules)) at c.in_ok-first_entries.ensures.handed in
      let H : Type 0 = HasCleanDisk (g.T.LedgerTables.state c.first_entries.new.tables) × HoldsTenant t old in
      each c.finish.result c.finish.ensures
      (λ entries h.
      subst (λ v. v.items ≡ account_entries_within m account span) (sym h.0)
      (taken_items m account span
      (all_fit t m old.now.trees held fit one up account c.ranges.account.fits)
      (in_time_order t m old.now.trees held fit one up account c.ranges.account.fits)
      H (clean, tenant) c.span_begin-begin.result c.span_begin-begin.ensures c.new-taken.result c.first_entries.new.sink c.in_ok-first_entries.field-0 handed
      c.new-taken.ensures h.1));
  reads = search rules;
}
