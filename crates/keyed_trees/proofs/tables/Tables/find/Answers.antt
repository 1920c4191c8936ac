use Rattle.std.proofs.Common.{Contains, subst, sym}
use Rattle.sqlite_trees.specs.View.{IsClean}
use Rattle.keyed_trees.specs.Layout.{key_of}
use Rattle.keyed_trees.specs.Rows.{has_key}
use Rattle.keyed_trees.proofs.ReadLemmas.{found_read}
use Rattle.keyed_trees.proofs.tables.Tables.find.Goals as goal

pub find_row-found-requires : goal.find_row-found-requires
find_row-found-requires g c = subst (Contains g.L.Layout.keys) (sym c.index.ensures) g.met.K.Key.listed

pub returns-clause-found : goal.returns-clause-found
returns-clause-found g c clean =
    let there = subst (λ k. IsClean (g.S.Store.view k.store)) c.self.view_is clean in
    rw (← c.index.ensures) (found_read g.K.Of.Record.cells (has_key (key_of c.index.result) c.args.key.now) ((g.S.Store.view c.args.self.now.store).trees c.index.result.table) c.find_row-found.new.row c.find_row-found.result c.read_found-outcome.result
    c.read_found-outcome.ensures.read (rw c.take_row-row.ensures at (c.find_row-found.ensures.found there)))
