use Rattle.std.proofs.Common.{subst, sym, rules, to_z-of_z, SFits, w64}
use Rattle.keyed_trees.specs.Files.{MayStand}
use Rattle.keyed_trees.specs.Serving.{IsActive}
use Rattle.keyed_trees.proofs.KeepingLemmas as lemma
use Rattle.keyed_trees.proofs.StateLemmas as state
use Rattle.keyed_trees.proofs.tables.Tables.add_at_inside.Goals as goal

pub add_at-requires-clause-ready : goal.add_at-requires-clause-ready
add_at-requires-clause-ready g c clean =
    let it = c.self.inside in
    lemma.is_ready g.L.Layout g.S.Store it.catalog.now it.next it.in_transaction it.store c.self.invariant (g.met.S.Store.broken_if_shut it.store) clean

pub add_at-requires-clause-table : goal.add_at-requires-clause-table
add_at-requires-clause-table g c clean =
    let it = c.self.inside in
    lemma.is_table g.L.Layout g.S.Store it.catalog.now it.next it.in_transaction it.store c.self.invariant g.R.Record.table g.met.R.Record.listed clean

pub invariant_of-self : goal.invariant_of-self
invariant_of-self g c =
    let it = c.self.inside in
    let fits : SFits w64 c.args.id = search rules in
    let new = c.add_at.new.store in
    let active = subst (IsActive g.S.Store) (sym c.self.view_is) c.requires.active in
    rw (c.forget.ensures, c.table.ensures) (lemma.keeps_put g.L.Layout g.S.Store it.catalog.now it.next it.in_transaction it.store c.self.invariant
    new (g.met.S.Store.shut_if_dirty new) c.in-Ok.ensures.quiet g.met.L.Layout.unlisted active.mode g.R.Record.table c.args.id (g.R.Record.cells c.args.content.now) g.met.R.Record.listed (subst (λ k. MayStand g.L.Layout g.S.Store k.store g.R.Record.table (g.R.Record.cells c.args.content.now)) (sym c.self.view_is) c.requires.row) (λ clean. (simp to_z-of_z at (c.in-Ok.ensures.ok clean)).1))

pub invariant_of-self-in-Err : goal.invariant_of-self-in-Err
invariant_of-self-in-Err g c =
    let it = c.self.inside in
    let new = c.add_at.new.store in
    rw c.forget_all.ensures (lemma.keeps_undone g.L.Layout g.S.Store it.catalog.now it.next it.in_transaction it.store c.self.invariant
    new (g.met.S.Store.shut_if_dirty new) c.in-Err.ensures.quiet c.in-Err.ensures.err c.in-Err.ensures.lists)

pub returns-in-Ok : goal.returns-in-Ok
returns-in-Ok g c =
    let it = c.self.inside in
    let fits : SFits w64 c.args.id = search rules in
    let new = c.add_at.new.store in
    let active = subst (IsActive g.S.Store) (sym c.self.view_is) c.requires.active in
    rw (← c.self.view_is) (state.added_at g.L.Layout.schema g.S.Store it.store new it.in_transaction c.in-Ok.ensures.quiet (g.met.S.Store.broken_if_shut it.store) active.mode g.L.Layout.keys it.catalog.now c.self.invariant.listed g.R.Record.table c.args.id (g.R.Record.cells c.args.content.now) (simp to_z-of_z at c.in-Ok.ensures.ok))

pub returns-in-Err : goal.returns-in-Err
returns-in-Err g c =
    let it = c.self.inside in
    let new = c.add_at.new.store in
    rw (← c.self.view_is) (state.failed g.L.Layout.schema g.S.Store it.store new it.in_transaction c.in-Err.ensures.quiet _ _ c.in-Err.ensures.err)
