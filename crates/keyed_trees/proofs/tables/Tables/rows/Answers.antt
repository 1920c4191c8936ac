use Rattle.keyed_trees.proofs.ReadLemmas.{when_err, when_ok}
use Rattle.keyed_trees.proofs.KeepingLemmas as lemma
use Rattle.keyed_trees.proofs.tables.Tables.rows.Goals as goal

pub invariant_of-self : goal.invariant_of-self
invariant_of-self g c =
    let it = c.self.inside in
    let new = c.read_rows-outcome.new.store in
    rw c.forget_all.ensures (lemma.keeps_undone g.L.Layout g.S.Store it.catalog.now it.next it.in_transaction it.store c.self.invariant
    new (g.met.S.Store.shut_if_dirty new) c.read_rows-outcome.ensures.reads.quiet (λ clean. when_err c.read_rows-outcome.result c.if-is_err.ensures.value (c.read_rows-outcome.ensures.reads.err clean)) c.read_rows-outcome.ensures.reads.lists)

pub invariant_of-self-else-is_err : goal.invariant_of-self-else-is_err
invariant_of-self-else-is_err g c =
    let it = c.self.inside in
    let new = c.read_rows-outcome.new.store in
    lemma.keeps_read g.L.Layout g.S.Store it.catalog.now it.next it.in_transaction it.store c.self.invariant
    new (g.met.S.Store.shut_if_dirty new) c.read_rows-outcome.ensures.reads.quiet (λ clean. when_ok c.read_rows-outcome.result c.if-is_err.ensures.value (c.read_rows-outcome.ensures.reads.same clean))

pub read_rows-outcome-requires : goal.read_rows-outcome-requires
read_rows-outcome-requires g c clean =
    let it = c.self.inside in
    lemma.is_table g.L.Layout g.S.Store it.catalog.now it.next it.in_transaction it.store c.self.invariant g.R.Record.table g.met.R.Record.listed clean
