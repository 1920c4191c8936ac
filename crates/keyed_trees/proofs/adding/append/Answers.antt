use Rattle.std.proofs.Common.{◌≡◌, subst, arith, rules, to_z-of_z, SFits, w64}
use Rattle.sqlite_trees.specs.View.{IsClean, IsShaped}
use Rattle.sqlite_rules.specs.Edit.{next_rowid}
use Rattle.keyed_trees.proofs.AppendLemmas.{is_free, appended}
use Rattle.keyed_trees.proofs.ReadLemmas.{when_ok}
use Rattle.keyed_trees.proofs.adding.append.Goals as goal

pub insert-requires-clause-free : goal.insert-requires-clause-free
insert-requires-clause-free g c clean =
    let old = g.S.Store.view c.args.store.now in
    let mid = g.S.Store.view c.known_or_next.new.store in
    let table = g.R.Record.table in
    let before : IsClean old = omega (arith, c.known_or_next.ensures.reads.quiet.clean) in
    let shaped = subst (λ s. IsShaped s (old.trees table)) (c.requires.table before) (g.met.S.Store.ordered c.args.store.now (c.requires.sound before) table) in
    let next = subst (λ t. next_rowid (old.trees t) ≡ c.in_ok-id.id) c.table.ensures (c.in_ok-id.ensures.next clean) in
    let fits : SFits w64 c.in_ok-id.id = search rules in
    let written = simp to_z-of_z at (when_ok c.write_row.result c.if-is_err.ensures.value c.write_row.ensures) in
    rw c.table-2.ensures (is_free old mid table c.in_ok-id.id c.write_row.new.row (g.R.Record.cells c.args.content.now) (c.in_ok-id.ensures.reads.same clean) shaped next written)

pub returns-in_err-insert-clause-added : goal.returns-in_err-insert-clause-added
returns-in_err-insert-clause-added g c = record {
  ok = search rules;
  err = search rules;
  lists = search rules;
  quiet = search rules;
}

pub returns-clause-added : goal.returns-clause-added
returns-clause-added g c = record {
  ok = λ clean.
      let old = g.S.Store.view c.args.store.now in
      let mid = g.S.Store.view c.known_or_next.new.store in
      let table = g.R.Record.table in
      let there : IsClean mid = omega (arith, c.insert.ensures.quiet.clean) in
      let before : IsClean old = omega (arith, c.known_or_next.ensures.reads.quiet.clean, c.insert.ensures.quiet.clean) in
      let shaped = subst (λ s. IsShaped s (old.trees table)) (c.requires.table before) (g.met.S.Store.ordered c.args.store.now (c.requires.sound before) table) in
      let next = subst (λ t. next_rowid (old.trees t) ≡ c.in_ok-id.id) c.table.ensures (c.in_ok-id.ensures.next there) in
      let fits : SFits w64 c.in_ok-id.id = search rules in
      let written = simp to_z-of_z at (when_ok c.write_row.result c.if-is_err.ensures.value c.write_row.ensures) in
      appended old mid table c.in_ok-id.id c.write_row.new.row (g.R.Record.cells c.args.content.now) (c.in_ok-id.ensures.reads.same there) shaped next written
      c.args.catalog.now (g.S.Store.view c.insert.new.store) (rw c.table-2.ensures at (c.in_ok-insert.ensures.ok clean));
  err = λ clean. tt;
  lists = tt;
  quiet = search rules;
}
