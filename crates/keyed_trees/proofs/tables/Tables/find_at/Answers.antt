use Rattle.std.proofs.Common.{Contains, rules, SFits, subst, sym, to_z-of_z, w64}
use Rattle.sqlite_trees.specs.View.{IsClean}
use Rattle.keyed_trees.proofs.ReadLemmas.{found_read_at}
use Rattle.keyed_trees.proofs.tables.Tables.find_at.Goals as goal

pub find_row_at-found-requires : goal.find_row_at-found-requires
find_row_at-found-requires g c = subst (Contains g.L.Layout.tables) (sym c.table.ensures) g.met.R.Record.listed

pub returns-clause-found : goal.returns-clause-found
returns-clause-found g c clean =
    let there = subst (λ k. IsClean (g.S.Store.view k.store)) c.self.view_is clean in
    let fits : SFits w64 c.args.id = search rules in
    rw (← c.table.ensures) (found_read_at g.R.Record.cells c.args.id ((g.S.Store.view c.args.self.now.store).trees c.table.result) c.find_row_at-found.new.row c.find_row_at-found.result c.read_found-outcome.result
    c.read_found-outcome.ensures.read (simp to_z-of_z at (rw c.take_row-row.ensures at (c.find_row_at-found.ensures.found there))))
