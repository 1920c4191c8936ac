use Rattle.std.proofs.Common.{refl, sym, subst, rules, arith}
use Rattle.std.specs.List.{AllZip}
use Rattle.sqlite.specs.Effect.{Database}
use Rattle.sqlite.specs.State.{HasCleanDisk}
use Rattle.openings.specs.Tables.{HasTables}
use Rattle.openings.specs.Whole.{IsReadFor}
use Rattle.openings.proofs.WholeLemmas.{starts_with_directory}
use Rattle.openings.proofs.whole_rows.read_all.Goals as goal

pub returns-clause-reads : goal.returns-clause-reads
returns-clause-reads g c = record {
  whole = λ clean has.
      let first : HasCleanDisk (g.T.LedgerTables.state c.directory.new.self) =
      omega (arith, c.in_ok-tenants.ensures.follows.survives.clean, clean) in
      let kept = c.in_ok-directory.ensures.reads.same first in
      let there = subst (λ (db : Database). HasTables c.args.version db.schema) (sym kept.0.now_is) has in
      record {
        version_is = refl;
        directory = c.in_ok-directory.ensures.whole first (starts_with_directory c.args.version _ has);
        tenants = subst (λ (db : Database). AllZip (IsReadFor c.args.version db.trees) c.in_ok-directory.directory.items
            c.in_ok-tenants.tenants.items) kept.0.now_is
            (rw c.deref.ensures.value at (c.in_ok-tenants.ensures.whole clean there));
      };
  looks = search rules;
}
