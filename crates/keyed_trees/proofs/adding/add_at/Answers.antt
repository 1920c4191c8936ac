use Rattle.std.proofs.Common.{rules, arith, to_z-of_z, SFits, w64}
use Rattle.sqlite_trees.specs.View.{IsClean}
use Rattle.keyed_trees.proofs.AppendLemmas.{added_at, on_ok}
use Rattle.keyed_trees.proofs.ReadLemmas.{when_ok}
use Rattle.keyed_trees.proofs.adding.add_at.Goals as goal

pub returns : goal.returns
returns g c = record {
  ok = on_ok c.insert.result c.insert.ensures.ok (λ sets clean.
      let old = g.S.Store.view c.args.store.now in
      let mid = g.S.Store.view c.find_at.new.store in
      let new = g.S.Store.view c.insert.new.store in
      let there : IsClean mid = omega (arith, c.insert.ensures.quiet.clean) in
      let fits : SFits w64 c.args.id = search rules in
      let free = rw c.if-branch.false at (rw c.table.ensures at (simp to_z-of_z at (c.in_ok-find_at.ensures.found there))) in
      let written = simp to_z-of_z at (when_ok c.write_row.result c.if-is_err.ensures.value c.write_row.ensures) in
      added_at old mid new c.args.catalog.now g.R.Record.table c.args.id c.write_row.new.row (g.R.Record.cells c.args.content.now) (c.in_ok-find_at.ensures.reads.same there) free written (rw c.table-2.ensures at (sets clean)));
  err = search rules;
  lists = search rules;
  quiet = search rules;
}
