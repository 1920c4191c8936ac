use Rattle.std.proofs.Common.{subst, sym}
use Rattle.keyed_trees.specs.Layout.{key_of}
use Rattle.keyed_trees.specs.Files.{MayStand}
use Rattle.keyed_trees.specs.Serving.{IsActive}
use Rattle.keyed_trees.proofs.KeepingLemmas as lemma
use Rattle.keyed_trees.proofs.StateLemmas as state
use Rattle.keyed_trees.proofs.tables.Tables.set_inside.Goals as goal

pub set-requires-clause-ready : goal.set-requires-clause-ready
set-requires-clause-ready g c clean =
    let it = c.self.inside in
    lemma.is_ready g.L.Layout g.S.Store it.catalog.now it.next it.in_transaction it.store c.self.invariant (g.met.S.Store.broken_if_shut it.store) clean

pub set-requires-clause-served : goal.set-requires-clause-served
set-requires-clause-served g c clean =
    let it = c.self.inside in
    lemma.is_served g.L.Layout g.S.Store it.catalog.now it.next it.in_transaction it.store c.self.invariant (g.met.S.Store.broken_if_shut it.store) (key_of c.args.index.now) c.requires.listed clean

pub invariant_of-self : goal.invariant_of-self
invariant_of-self g c =
    let it = c.self.inside in
    let new = c.set.new.store in
    let active = subst (IsActive g.S.Store) (sym c.self.view_is) c.requires.active in
    rw c.forget.ensures (lemma.keeps_set_by_key g.L.Layout g.S.Store it.catalog.now it.next it.in_transaction it.store c.self.invariant
    new (g.met.S.Store.shut_if_dirty new) c.in-Ok.ensures.quiet g.met.L.Layout.unlisted active.mode (key_of c.args.index.now) c.args.key.now (g.R.Record.cells c.args.content.now) c.requires.listed (subst (λ k. MayStand g.L.Layout g.S.Store k.store c.args.index.now.table (g.R.Record.cells c.args.content.now)) (sym c.self.view_is) c.requires.row) c.in-Ok.ensures.ok)

pub invariant_of-self-in-Err : goal.invariant_of-self-in-Err
invariant_of-self-in-Err g c =
    let it = c.self.inside in
    let new = c.set.new.store in
    rw c.forget_all.ensures (lemma.keeps_undone g.L.Layout g.S.Store it.catalog.now it.next it.in_transaction it.store c.self.invariant
    new (g.met.S.Store.shut_if_dirty new) c.in-Err.ensures.quiet c.in-Err.ensures.err c.in-Err.ensures.lists)

pub returns-in-Ok : goal.returns-in-Ok
returns-in-Ok g c =
    let it = c.self.inside in
    let new = c.set.new.store in
    let active = subst (IsActive g.S.Store) (sym c.self.view_is) c.requires.active in
    rw (← c.self.view_is) (state.set g.L.Layout.schema g.S.Store it.store new it.in_transaction c.in-Ok.ensures.quiet (g.met.S.Store.broken_if_shut it.store) active.mode g.L.Layout.keys it.catalog.now c.self.invariant.listed (key_of c.args.index.now) c.args.key.now (g.R.Record.cells c.args.content.now) c.in-Ok.ensures.ok)

pub returns-in-Err : goal.returns-in-Err
returns-in-Err g c =
    let it = c.self.inside in
    let new = c.set.new.store in
    rw (← c.self.view_is) (state.failed g.L.Layout.schema g.S.Store it.store new it.in_transaction c.in-Err.ensures.quiet _ _ c.in-Err.ensures.err)
