use Rattle.std.proofs.Common.{subst, sym}
use Rattle.keyed_trees.specs.Serving.{IsActive}
use Rattle.keyed_trees.proofs.ReadLemmas.{when_err, when_ok}
use Rattle.keyed_trees.proofs.KeepingLemmas as lemma
use Rattle.keyed_trees.proofs.tables.Tables.mark_inside.Goals as goal

pub invariant_of-self : goal.invariant_of-self
invariant_of-self g c =
    let it = c.self.inside in
    let new = c.mark-outcome.new.store in
    rw c.forget_all.ensures (lemma.keeps_undone g.L.Layout g.S.Store it.catalog.now it.next it.in_transaction it.store c.self.invariant
    new (g.met.S.Store.shut_if_dirty new) c.mark-outcome.ensures.quiet (λ clean. when_err c.mark-outcome.result c.if-is_err.ensures.value (c.mark-outcome.ensures.err clean)) (when_err c.mark-outcome.result c.if-is_err.ensures.value c.mark-outcome.ensures.lists))

pub invariant_of-self-else-is_err : goal.invariant_of-self-else-is_err
invariant_of-self-else-is_err g c =
    let it = c.self.inside in
    let new = c.mark-outcome.new.store in
    let active = subst (IsActive g.S.Store) (sym c.self.view_is) c.requires in
    lemma.keeps_marked g.L.Layout g.S.Store it.catalog.now it.next it.in_transaction it.store c.self.invariant
    new (g.met.S.Store.shut_if_dirty new) c.mark-outcome.ensures.quiet active.mode (when_ok c.mark-outcome.result c.if-is_err.ensures.value c.mark-outcome.ensures.ok)
