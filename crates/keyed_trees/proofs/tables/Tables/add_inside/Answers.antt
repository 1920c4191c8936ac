use Rattle.std.proofs.Common.{subst, sym, rules, to_z-of_z, SFits, w64}
use Rattle.keyed_trees.specs.Files.{MayStand}
use Rattle.keyed_trees.specs.Serving.{IsActive}
use Rattle.keyed_trees.proofs.KeepingLemmas as lemma
use Rattle.keyed_trees.proofs.NextRowidLemmas.{next_if_known}
use Rattle.keyed_trees.proofs.OpenLemmas.{sound_is_open}
use Rattle.keyed_trees.proofs.StateLemmas as state
use Rattle.keyed_trees.proofs.tables.Tables.add_inside.Goals as goal

pub append-requires-clause-ready : goal.append-requires-clause-ready
append-requires-clause-ready g c clean =
    let it = c.self.inside in
    lemma.is_ready g.L.Layout g.S.Store it.catalog.now it.next it.in_transaction it.store c.self.invariant (g.met.S.Store.broken_if_shut it.store) clean

pub append-requires-clause-table : goal.append-requires-clause-table
append-requires-clause-table g c clean =
    let it = c.self.inside in
    lemma.is_table g.L.Layout g.S.Store it.catalog.now it.next it.in_transaction it.store c.self.invariant g.R.Record.table g.met.R.Record.listed clean

pub append-requires-clause-sound : goal.append-requires-clause-sound
append-requires-clause-sound g c =
    let active = subst (IsActive g.S.Store) (sym c.self.view_is) c.requires.active in
    active.sound

pub append-requires-clause-known : goal.append-requires-clause-known
append-requires-clause-known g c =
    let it = c.self.inside in
    let v = g.S.Store.view it.store in
    let active = subst (IsActive g.S.Store) (sym c.self.view_is) c.requires.active in
    rw c.table.ensures at (next_if_known v it.next c.table.result c.get-known.result (λ clean. c.self.invariant.serving.next (sound_is_open v (g.met.S.Store.broken_if_shut it.store) (active.sound clean))) c.get-known.ensures)

pub invariant_of-self : goal.invariant_of-self
invariant_of-self g c =
    let it = c.self.inside in
    let fits : SFits w64 c.in-Ok.id = search rules in
    let new = c.append.new.store in
    let active = subst (IsActive g.S.Store) (sym c.self.view_is) c.requires.active in
    lemma.keeps_appended g.L.Layout g.S.Store it.catalog.now it.next it.in_transaction it.store c.self.invariant
    new (g.met.S.Store.shut_if_dirty new) c.in-Ok.ensures.added.quiet g.met.L.Layout.unlisted active.mode g.R.Record.table (g.R.Record.cells c.args.content.now) c.in-Ok.id c.pass.new.self g.met.R.Record.listed (subst (λ k. MayStand g.L.Layout g.S.Store k.store g.R.Record.table (g.R.Record.cells c.args.content.now)) (sym c.self.view_is) c.requires.row) (simp to_z-of_z at (rw c.table-in-Ok.ensures at c.pass.ensures)) c.in-Ok.ensures.id c.in-Ok.ensures.added.ok

pub invariant_of-self-in-Err : goal.invariant_of-self-in-Err
invariant_of-self-in-Err g c =
    let it = c.self.inside in
    let new = c.append.new.store in
    rw c.forget_all.ensures (lemma.keeps_undone g.L.Layout g.S.Store it.catalog.now it.next it.in_transaction it.store c.self.invariant
    new (g.met.S.Store.shut_if_dirty new) c.in-Err.ensures.added.quiet c.in-Err.ensures.added.err c.in-Err.ensures.added.lists)

pub returns-in-Ok : goal.returns-in-Ok
returns-in-Ok g c =
    let it = c.self.inside in
    let new = c.append.new.store in
    let active = subst (IsActive g.S.Store) (sym c.self.view_is) c.requires.active in
    rw (← c.self.view_is) (state.appended g.L.Layout.schema g.S.Store it.store new it.in_transaction c.in-Ok.ensures.added.quiet (g.met.S.Store.broken_if_shut it.store) active.mode g.L.Layout.keys it.catalog.now c.self.invariant.listed g.R.Record.table (g.R.Record.cells c.args.content.now) c.in-Ok.ensures.added.ok)

pub returns-in-Err : goal.returns-in-Err
returns-in-Err g c =
    let it = c.self.inside in
    let new = c.append.new.store in
    rw (← c.self.view_is) (state.failed g.L.Layout.schema g.S.Store it.store new it.in_transaction c.in-Err.ensures.added.quiet _ _ c.in-Err.ensures.added.err)
