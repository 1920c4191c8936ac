use Rattle.keyed_trees.proofs.KeepingLemmas as lemma
use Rattle.keyed_trees.proofs.StateLemmas.{undone}
use Rattle.keyed_trees.proofs.tables.Tables.rollback.Goals as goal

pub invariant_of-self : goal.invariant_of-self
invariant_of-self g c =
    let it = c.self.inside in
    let new = c.rollback.new.self in
    rw c.forget_all.ensures (lemma.keeps_rolled_back g.L.Layout g.S.Store it.catalog.now it.next it.in_transaction it.store c.self.invariant
    new (g.met.S.Store.shut_if_dirty new) c.rollback.ensures.quiet c.rollback.ensures.undone)

pub returns-clause-undone : goal.returns-clause-undone
returns-clause-undone g c =
    rw (← c.self.view_is) (undone g.L.Layout.schema g.S.Store c.self.inside.store c.rollback.new.self c.self.inside.in_transaction c.rollback.ensures.quiet (λ clean. c.rollback.ensures.undone))
