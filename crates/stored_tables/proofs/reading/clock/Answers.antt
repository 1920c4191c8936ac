use Rattle.std.proofs.Common.{sym, ◌∙◌, rules}
use Rattle.std.proofs.lemmas.Option.{same_Some}
use Rattle.stored_tables.specs.Idle.{machine_at}
use Rattle.stored_tables.proofs.ExpiryReads.{told_or}
use Rattle.stored_tables.proofs.Numbers.{passed}
use Rattle.stored_tables.proofs.reading.clock.Goals as goal

pub returns : goal.returns
returns g c = record {
  ok = λ clean tenant.
      let t = c.args.tenant.0 in
      let s0 = g.T.LedgerTables.state c.args.tables.now in
      let told = rw (passed t (search rules)) at (c.in_ok-find_clock.ensures.ok clean tenant.schema) in
      let is = c.point_reads.ensures.clock t (machine_at t s0) s0.now.trees _ tenant.holds told in
      told_or c.in_ok-find_clock.field-0 _ c.ok_or.result c.ok_or.ensures.value _ (λ clock some. same_Some _ _ (sym some ∙ is));
  reads = search rules;
}
