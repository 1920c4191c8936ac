use Rattle.std.proofs.Common.{arith}
use Rattle.sqlite_trees.specs.View.{IsClean}
use Rattle.keyed_trees.specs.Layout.{key_of}
use Rattle.keyed_trees.proofs.RangeLemmas.{range_if_ok}
use Rattle.keyed_trees.proofs.ReadLemmas.{when_err, when_ok}
use Rattle.keyed_trees.proofs.KeepingLemmas as lemma
use Rattle.keyed_trees.proofs.tables.Tables.range_of.Goals as goal

pub invariant_of-self : goal.invariant_of-self
invariant_of-self g c =
    let it = c.self.inside in
    let new = c.read_range-outcome.new.store in
    rw c.forget_all.ensures (lemma.keeps_undone g.L.Layout g.S.Store it.catalog.now it.next it.in_transaction it.store c.self.invariant
    new (g.met.S.Store.shut_if_dirty new) c.read_range-outcome.ensures.reads.quiet (λ clean. when_err c.read_range-outcome.result c.if-is_err.ensures.value (c.read_range-outcome.ensures.reads.err clean)) c.read_range-outcome.ensures.reads.lists)

pub invariant_of-self-else-is_err : goal.invariant_of-self-else-is_err
invariant_of-self-else-is_err g c =
    let it = c.self.inside in
    let new = c.read_range-outcome.new.store in
    lemma.keeps_read g.L.Layout g.S.Store it.catalog.now it.next it.in_transaction it.store c.self.invariant
    new (g.met.S.Store.shut_if_dirty new) c.read_range-outcome.ensures.reads.quiet (λ clean. when_ok c.read_range-outcome.result c.if-is_err.ensures.value (c.read_range-outcome.ensures.reads.same clean))

pub read_range-outcome-requires : goal.read_range-outcome-requires
read_range-outcome-requires g c clean =
    let it = c.self.inside in
    lemma.is_served g.L.Layout g.S.Store it.catalog.now it.next it.in_transaction it.store c.self.invariant (g.met.S.Store.broken_if_shut it.store) _ c.requires clean

pub returns-else-is_err-clause-read : goal.returns-else-is_err-clause-read
returns-else-is_err-clause-read g c clean =
    let it = c.self.inside in
    let old = g.S.Store.view it.store in
    let read = c.read_range-outcome in
    let before : IsClean old = omega (arith, read.ensures.reads.quiet.clean) in
    let served = lemma.is_served g.L.Layout g.S.Store it.catalog.now it.next it.in_transaction it.store c.self.invariant (g.met.S.Store.broken_if_shut it.store) _ c.requires before in
    rw (← c.self.view_is) (range_if_ok (λ v. v.items) g.R.Record.cells (key_of c.args.index.now) c.args.range.now.direction c.args.range.now.start.now c.args.range.now.stop.now c.args.most old (IsClean (g.S.Store.view read.new.store)) read.result
    (g.met.S.Store.ordered it.store) served clean (read.ensures.reads.sound clean) read.ensures.read)
