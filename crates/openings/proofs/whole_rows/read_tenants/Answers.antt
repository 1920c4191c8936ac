use Rattle.std.proofs.Common.{[], sym, subst, refl, rules, arith}
use Rattle.std.specs.List.{AllZip}
use Rattle.rows.specs.TypedRows.{lists_of}
use Rattle.sqlite.specs.Effect.{Database}
use Rattle.sqlite.specs.State.{HasCleanDisk}
use Rattle.stored_tables.specs.BatchLaws.{follows_itself, follows_then}
use Rattle.stored_ledgers.specs.RestingLaws.{unchanged}
use Rattle.openings.specs.Tables.{HasTables, AreTenantRows}
use Rattle.openings.specs.Whole.{IsReadFor}
use Rattle.openings.proofs.Passed.{passed}
use Rattle.openings.proofs.WholeLemmas.{zipped_on}
use Rattle.openings.proofs.whole_rows.read_tenants.Goals as goal

pub loop-row-init : goal.loop-row-init
loop-row-init g c = record {
  read = λ clean has.
      subst (AllZip (IsReadFor c.args.version (g.T.LedgerTables.state c.args.tables.now).now.trees) [])
      (sym c.new-tenants.ensures.items) tt;
  kept = λ clean is_open. unchanged (g.T.LedgerTables.state c.args.tables.now) is_open;
  follows = follows_itself (g.T.LedgerTables.state c.args.tables.now);
}

pub loop-row-preserved : goal.loop-row-preserved
loop-row-preserved g c =
    let s0 = g.T.LedgerTables.state c.args.tables.now in
    let s1 = g.T.LedgerTables.state c.loop-row.tables in
    let follows = c.in_ok-rows.ensures.looks.follows in record {
      read = λ clean has.
          let mid : HasCleanDisk s1 = omega (arith, follows.survives.clean, clean) in
          let was_open = c.loop-row.invariant.follows.live (mid, (c.in_ok-rows.ensures.looks.kept clean).0.was_open) in
          let now_is = (c.loop-row.invariant.kept mid was_open).0.now_is in
          let there = subst (λ (db : Database). HasTables c.args.version db.schema) (sym now_is) has in
          let number = passed c.row-item.result.number (search rules) in
          let rows = subst (λ (db : Database). AreTenantRows c.args.version c.row-item.result.number db.trees (lists_of c.in_ok-rows.rows))
          now_is (rw number at (c.in_ok-rows.ensures.whole clean there)) in
          zipped_on (IsReadFor c.args.version s0.now.trees) c.args.directory.now _ _ c.loop-row.row-index
          c.row-item.result _ c.loop-row-test.true c.row-item.is c.in_ok-push.ensures.items
          (c.loop-row.invariant.read mid has) (record { digest = refl; rows = rows });
      kept = search rules;
      follows = follows_then _ _ _ c.loop-row.invariant.follows follows;
    }

pub returns-in_err-push-clause-looks : goal.returns-in_err-push-clause-looks
returns-in_err-push-clause-looks g c is_open = search (rules, follows_then)
