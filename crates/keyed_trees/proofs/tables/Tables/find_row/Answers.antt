use Rattle.keyed_trees.proofs.ReadLemmas.{when_err, when_ok}
use Rattle.keyed_trees.proofs.KeepingLemmas as lemma
use Rattle.keyed_trees.proofs.tables.Tables.find_row.Goals as goal

pub invariant_of-self : goal.invariant_of-self
invariant_of-self g c =
    let it = c.self.inside in
    let new = c.find-outcome.new.store in
    rw c.forget_all.ensures (lemma.keeps_undone g.L.Layout g.S.Store it.catalog.now it.next it.in_transaction it.store c.self.invariant
    new (g.met.S.Store.shut_if_dirty new) c.find-outcome.ensures.reads.quiet (λ clean. when_err c.find-outcome.result c.if-is_err.ensures.value (c.find-outcome.ensures.reads.err clean)) c.find-outcome.ensures.reads.lists)

pub invariant_of-self-else-is_err : goal.invariant_of-self-else-is_err
invariant_of-self-else-is_err g c =
    let it = c.self.inside in
    let new = c.find-outcome.new.store in
    lemma.keeps_read g.L.Layout g.S.Store it.catalog.now it.next it.in_transaction it.store c.self.invariant
    new (g.met.S.Store.shut_if_dirty new) c.find-outcome.ensures.reads.quiet (λ clean. when_ok c.find-outcome.result c.if-is_err.ensures.value (c.find-outcome.ensures.reads.same clean))

pub find-outcome-requires : goal.find-outcome-requires
find-outcome-requires g c clean =
    let it = c.self.inside in
    lemma.is_served g.L.Layout g.S.Store it.catalog.now it.next it.in_transaction it.store c.self.invariant (g.met.S.Store.broken_if_shut it.store) _ c.requires clean
