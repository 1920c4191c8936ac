use Rattle.std.proofs.Common.{All, sym, subst, rules, arith}
use Rattle.sqlite.specs.Effect.{Database}
use Rattle.sqlite.specs.State.{HasCleanDisk}
use Rattle.stored_ledgers.specs.Listing.{AreThose, IsTenantOf}
use Rattle.stored_ledgers.proofs.JoinLemmas.{starts_as_ours}
use Rattle.stored_ledgers.proofs.ListingLemmas.{all_found, are_listed, here_still}
use Rattle.stored_ledgers.proofs.directory.try_tenants.Goals as goal

pub with_clocks-requires-clause-here : goal.with_clocks-requires-clause-here
with_clocks-requires-clause-here g c =
    here_still (g.T.LedgerTables.state c.args.tables.now) (g.T.LedgerTables.state c.directory.new.self)
    c.in_ok-rows.ensures.reads.follows c.in_ok-rows.ensures.reads.same c.requires

pub with_clocks-requires-clause-found : goal.with_clocks-requires-clause-found
with_clocks-requires-clause-found g c mid =
    let s0 = g.T.LedgerTables.state c.args.tables.now in
    let before : HasCleanDisk s0 = omega (arith, c.in_ok-rows.ensures.reads.follows.survives.clean, mid) in
    let ledgers = (c.requires before).2 in
    let reads = c.in_ok-rows.ensures.whole mid (starts_as_ours _ ledgers.schema) in
    subst (λ (db : Database). All (IsTenantOf db.trees) c.as_slice.result.now)
    (sym (c.in_ok-rows.ensures.reads.same mid).0.now_is)
    (subst (All (IsTenantOf s0.now.trees)) (sym c.as_slice.ensures.value)
    (all_found s0.now.trees ledgers.distinct c.in_ok-rows.rows.items reads))

pub returns : goal.returns
returns g c = record {
  value = λ clean.
      let s0 = g.T.LedgerTables.state c.args.tables.now in
      let mid : HasCleanDisk (g.T.LedgerTables.state c.directory.new.self) =
      omega (arith, c.in_ok-tenants.ensures.looks.follows.survives.clean, clean) in
      let before : HasCleanDisk s0 = omega (arith, c.in_ok-rows.ensures.reads.follows.survives.clean, mid) in
      let reads = c.in_ok-rows.ensures.whole mid (starts_as_ours _ (c.requires before).2.schema) in
      let those = subst (λ (db : Database). AreThose db.trees c.in_ok-rows.rows.items c.in_ok-tenants.tenants.items)
      (c.in_ok-rows.ensures.reads.same mid).0.now_is
      (rw c.as_slice.ensures.value at (c.in_ok-tenants.ensures.value clean)) in
      are_listed s0.now.trees c.in_ok-rows.rows.items c.in_ok-tenants.tenants.items _ reads those
      c.sort_by_name.ensures.same c.sort_by_name.ensures.sorted;
  looks = search rules;
}
