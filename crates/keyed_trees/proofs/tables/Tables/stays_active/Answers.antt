use Rattle.std.proofs.Common.{◌≡◌, false, IsTrue, refl, subst, sym}
use Rattle.sqlite_trees.specs.View.{IsClean}
use Rattle.keyed_trees.proofs.KeepingLemmas as lemma
use Rattle.keyed_trees.proofs.OpenLemmas.{open_is_clean}
use Rattle.keyed_trees.proofs.StateLemmas as state
use Rattle.keyed_trees.proofs.tables.Tables.stays_active.Goals as goal

pub invariant_of-self : goal.invariant_of-self
invariant_of-self g c =
    let it = c.self.inside in
    lemma.keeps_over g.L.Layout g.S.Store it.catalog.now it.next it.in_transaction it.store c.self.invariant
    (λ on. subst (λ k. IsClean (g.S.Store.view k.store) → IsTrue (g.S.Store.view k.store).is_open → k.in_transaction ≡ false) (sym c.self.view_is) (c.if-is_active.ensures.over refl) (open_is_clean (g.S.Store.view it.store) (g.met.S.Store.shut_if_dirty it.store) on) on)

pub returns-clause-undone : goal.returns-clause-undone
returns-clause-undone g c =
    let it = c.self.inside in
    rw (← c.self.view_is) (state.over g.L.Layout.schema g.S.Store it.store it.in_transaction g.L.Layout it.catalog.now it.next c.self.invariant
    (λ on. subst (λ k. IsClean (g.S.Store.view k.store) → IsTrue (g.S.Store.view k.store).is_open → k.in_transaction ≡ false) (sym c.self.view_is) (c.if-is_active.ensures.over refl) (open_is_clean (g.S.Store.view it.store) (g.met.S.Store.shut_if_dirty it.store) on) on))
