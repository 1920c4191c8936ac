use Rattle.std.proofs.Common.{[], sym, subst, arith}
use Rattle.sqlite.specs.Effect.{Database}
use Rattle.sqlite.specs.State.{HasCleanDisk}
use Rattle.stored_tables.specs.BatchLaws.{follows_itself, follows_then}
use Rattle.stored_ledgers.specs.Listing.{AreThose, IsTenantOf, IsThat}
use Rattle.stored_ledgers.specs.RestingLaws.{unchanged, unchanged_then}
use Rattle.stored_ledgers.proofs.ListingLemmas.{here_still, those_on}
use Rattle.stored_ledgers.proofs.directory.with_clocks.Goals as goal

pub loop-row-init : goal.loop-row-init
loop-row-init g c = record {
  told = λ clean.
      subst (AreThose (g.T.LedgerTables.state c.args.tables.now).now.trees []) (sym c.new-tenants.ensures.items) tt;
  kept = λ clean. unchanged (g.T.LedgerTables.state c.args.tables.now) (c.requires.here clean).0;
  follows = follows_itself (g.T.LedgerTables.state c.args.tables.now);
}

pub with_clock-requires-clause-here : goal.with_clock-requires-clause-here
with_clock-requires-clause-here g c =
    here_still (g.T.LedgerTables.state c.args.tables.now) (g.T.LedgerTables.state c.loop-row.tables)
    c.loop-row.invariant.follows c.loop-row.invariant.kept c.requires.here

pub with_clock-requires-clause-found : goal.with_clock-requires-clause-found
with_clock-requires-clause-found g c clean =
    let before : HasCleanDisk (g.T.LedgerTables.state c.args.tables.now) =
    omega (arith, c.loop-row.invariant.follows.survives.clean, clean) in
    subst (λ (db : Database). IsTenantOf db.trees c.row-item.result)
    (sym (c.loop-row.invariant.kept clean).0.now_is)
    (subst (IsTenantOf (g.T.LedgerTables.state c.args.tables.now).now.trees) (sym c.row-item.is)
    (c.requires.found before c.loop-row.row-index c.row-item.result c.loop-row-test.true))

pub loop-row-preserved : goal.loop-row-preserved
loop-row-preserved g c =
    let s0 = g.T.LedgerTables.state c.args.tables.now in
    let s1 = g.T.LedgerTables.state c.loop-row.tables in
    let s2 = g.T.LedgerTables.state c.with_clock.new.tables in
    let follows = c.with_clock.ensures.looks.follows in record {
      told = λ clean.
          let mid : HasCleanDisk s1 = omega (arith, follows.survives.clean, clean) in
          let kept = c.loop-row.invariant.kept mid in
          those_on s0.now.trees c.args.rows.now _ _ c.loop-row.row-index c.row-item.result _ c.loop-row-test.true
          c.row-item.is c.in_ok-push.ensures.items (c.loop-row.invariant.told mid)
          (subst (λ (db : Database). IsThat db.trees c.row-item.result c.in_ok-with_clock.field-0) kept.0.now_is
          (c.in_ok-with_clock.ensures.value clean));
      kept = λ clean.
          let mid : HasCleanDisk s1 = omega (arith, follows.survives.clean, clean) in
          unchanged_then s0 s1 s2 (c.loop-row.invariant.kept mid) (c.in_ok-with_clock.ensures.looks.kept clean);
      follows = follows_then s0 s1 s2 c.loop-row.invariant.follows follows;
    }
