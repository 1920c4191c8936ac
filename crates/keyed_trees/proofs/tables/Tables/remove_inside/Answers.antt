use Rattle.std.proofs.Common.{subst, sym, rules, to_z-of_z, SFits, w64}
use Rattle.keyed_trees.specs.Serving.{IsActive}
use Rattle.keyed_trees.proofs.KeepingLemmas as lemma
use Rattle.keyed_trees.proofs.StateLemmas as state
use Rattle.keyed_trees.proofs.tables.Tables.remove_inside.Goals as goal

pub remove-requires-clause-ready : goal.remove-requires-clause-ready
remove-requires-clause-ready g c clean =
    let it = c.self.inside in
    lemma.is_ready g.L.Layout g.S.Store it.catalog.now it.next it.in_transaction it.store c.self.invariant (g.met.S.Store.broken_if_shut it.store) clean

pub remove-requires-clause-table : goal.remove-requires-clause-table
remove-requires-clause-table g c clean =
    let it = c.self.inside in
    lemma.is_table g.L.Layout g.S.Store it.catalog.now it.next it.in_transaction it.store c.self.invariant c.args.table c.requires.listed clean

pub invariant_of-self : goal.invariant_of-self
invariant_of-self g c =
    let it = c.self.inside in
    let new = c.remove.new.store in
    let active = subst (IsActive g.S.Store) (sym c.self.view_is) c.requires.active in
    rw c.forget.ensures (lemma.keeps_removed g.L.Layout g.S.Store it.catalog.now it.next it.in_transaction it.store c.self.invariant
    new (g.met.S.Store.shut_if_dirty new) c.in-Ok.ensures.quiet g.met.L.Layout.unlisted active.mode c.args.table _ c.requires.listed c.in-Ok.ensures.ok)

pub invariant_of-self-in-Err : goal.invariant_of-self-in-Err
invariant_of-self-in-Err g c =
    let it = c.self.inside in
    let new = c.remove.new.store in
    rw c.forget_all.ensures (lemma.keeps_undone g.L.Layout g.S.Store it.catalog.now it.next it.in_transaction it.store c.self.invariant
    new (g.met.S.Store.shut_if_dirty new) c.in-Err.ensures.quiet c.in-Err.ensures.err c.in-Err.ensures.lists)

pub returns-in-Ok : goal.returns-in-Ok
returns-in-Ok g c =
    let it = c.self.inside in
    let fits : SFits w64 c.args.id = search rules in
    let new = c.remove.new.store in
    let active = subst (IsActive g.S.Store) (sym c.self.view_is) c.requires.active in
    rw (← c.self.view_is) (state.removed g.L.Layout.schema g.S.Store it.store new it.in_transaction c.in-Ok.ensures.quiet (g.met.S.Store.broken_if_shut it.store) active.mode g.L.Layout.keys it.catalog.now c.self.invariant.listed c.args.table c.args.id (simp to_z-of_z at c.in-Ok.ensures.ok))

pub returns-in-Err : goal.returns-in-Err
returns-in-Err g c =
    let it = c.self.inside in
    let new = c.remove.new.store in
    rw (← c.self.view_is) (state.failed g.L.Layout.schema g.S.Store it.store new it.in_transaction c.in-Err.ensures.quiet _ _ c.in-Err.ensures.err)
