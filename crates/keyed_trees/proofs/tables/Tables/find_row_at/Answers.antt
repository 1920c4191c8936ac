use Rattle.keyed_trees.proofs.ReadLemmas.{when_err, when_ok}
use Rattle.keyed_trees.proofs.KeepingLemmas as lemma
use Rattle.keyed_trees.proofs.tables.Tables.find_row_at.Goals as goal

pub invariant_of-self : goal.invariant_of-self
invariant_of-self g c =
    let it = c.self.inside in
    let new = c.find_at-outcome.new.store in
    rw c.forget_all.ensures (lemma.keeps_undone g.L.Layout g.S.Store it.catalog.now it.next it.in_transaction it.store c.self.invariant
    new (g.met.S.Store.shut_if_dirty new) c.find_at-outcome.ensures.reads.quiet (λ clean. when_err c.find_at-outcome.result c.if-is_err.ensures.value (c.find_at-outcome.ensures.reads.err clean)) c.find_at-outcome.ensures.reads.lists)

pub invariant_of-self-else-is_err : goal.invariant_of-self-else-is_err
invariant_of-self-else-is_err g c =
    let it = c.self.inside in
    let new = c.find_at-outcome.new.store in
    lemma.keeps_read g.L.Layout g.S.Store it.catalog.now it.next it.in_transaction it.store c.self.invariant
    new (g.met.S.Store.shut_if_dirty new) c.find_at-outcome.ensures.reads.quiet (λ clean. when_ok c.find_at-outcome.result c.if-is_err.ensures.value (c.find_at-outcome.ensures.reads.same clean))

pub find_at-outcome-requires : goal.find_at-outcome-requires
find_at-outcome-requires g c clean =
    let it = c.self.inside in
    lemma.is_table g.L.Layout g.S.Store it.catalog.now it.next it.in_transaction it.store c.self.invariant _ c.requires clean
