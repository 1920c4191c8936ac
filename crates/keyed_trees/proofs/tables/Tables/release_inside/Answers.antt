use Rattle.std.proofs.Common.{arith, subst, sym}
use Rattle.keyed_trees.specs.Serving.{IsActive}
use Rattle.keyed_trees.proofs.ReadLemmas.{when_err, when_ok}
use Rattle.keyed_trees.proofs.KeepingLemmas as lemma
use Rattle.keyed_trees.proofs.StateLemmas as state
use Rattle.keyed_trees.proofs.tables.Tables.release_inside.Goals as goal

pub invariant_of-self : goal.invariant_of-self
invariant_of-self g c =
    let it = c.self.inside in
    let new = c.release-outcome.new.store in
    rw c.forget_all.ensures (lemma.keeps_undone g.L.Layout g.S.Store it.catalog.now it.next it.in_transaction it.store c.self.invariant
    new (g.met.S.Store.shut_if_dirty new) c.release-outcome.ensures.quiet (λ clean. when_err c.release-outcome.result c.if-is_err.ensures.value (c.release-outcome.ensures.err clean)) (when_err c.release-outcome.result c.if-is_err.ensures.value c.release-outcome.ensures.lists))

pub invariant_of-self-else-is_err : goal.invariant_of-self-else-is_err
invariant_of-self-else-is_err g c =
    let it = c.self.inside in
    let new = c.release-outcome.new.store in
    let active = subst (IsActive g.S.Store) (sym c.self.view_is) c.requires in
    lemma.keeps_released g.L.Layout g.S.Store it.catalog.now it.next it.in_transaction it.store c.self.invariant
    new (g.met.S.Store.shut_if_dirty new) c.release-outcome.ensures.quiet active.mode (when_ok c.release-outcome.result c.if-is_err.ensures.value c.release-outcome.ensures.ok)

pub returns-else-is_err : goal.returns-else-is_err
returns-else-is_err g c =
    let it = c.self.inside in
    let active = subst (IsActive g.S.Store) (sym c.self.view_is) c.requires in
    rw (← c.self.view_is) (state.released g.L.Layout.schema g.S.Store it.store c.release-outcome.new.store it.in_transaction c.release-outcome.ensures.quiet (g.met.S.Store.broken_if_shut it.store) active.mode
    c.release-outcome.result c.if-is_err.ensures.value (λ clean. active.sound (omega (arith, c.release-outcome.ensures.quiet.clean))) c.release-outcome.ensures.ok)
