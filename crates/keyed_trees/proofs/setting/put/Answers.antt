use Rattle.std.proofs.Common.{OnOk, subst, rules, to_z-of_z, SFits, w64}
use Rattle.sqlite_trees.specs.Tree.{put_row}
use Rattle.sqlite_trees.specs.View.{IsClean}
use Rattle.sqlite_exec.specs.Calls.{SetsTable}
use Rattle.keyed_trees.proofs.ReadLemmas.{when_ok}
use Rattle.keyed_trees.proofs.setting.put.Goals as goal

pub returns : goal.returns
returns g c = record {
  ok =
      let old = g.S.Store.view c.args.store.now in
      let new = g.S.Store.view c.put.new.store in
      let fits : SFits w64 c.args.id = search rules in
      let written = simp to_z-of_z at (when_ok c.write_row.result c.if-is_err.ensures.value c.write_row.ensures) in
      subst (λ row. OnOk c.put.result (IsClean new → SetsTable c.args.catalog.now old new g.R.Record.table (put_row row (old.trees g.R.Record.table)))) written
      (subst (λ t. OnOk c.put.result (IsClean new → SetsTable c.args.catalog.now old new t (put_row c.write_row.new.row (old.trees t)))) c.table.ensures c.put.ensures.ok);
  err = search rules;
  lists = search rules;
  quiet = search rules;
}
