use Rattle.std.proofs.Common.{IsTrue, subst, sym}
use Rattle.sqlite_trees.specs.View.{IsClean}
use Rattle.keyed_trees.proofs.ReadLemmas.{when_err, when_ok}
use Rattle.keyed_trees.proofs.KeepingLemmas as lemma
use Rattle.keyed_trees.proofs.tables.Tables.commit_inside.Goals as goal

pub invariant_of-self : goal.invariant_of-self
invariant_of-self g c =
    let it = c.self.inside in
    let done = c.commit-outcome in
    let new = done.new.self in
    rw c.forget_all.ensures (lemma.keeps_uncommitted g.L.Layout g.S.Store it.catalog.now it.next it.in_transaction it.store c.self.invariant
    new (g.met.S.Store.shut_if_dirty new) (g.met.S.Store.broken_if_shut it.store) done.ensures.clean done.ensures.crash (subst (λ k. IsClean (g.S.Store.view k.store) × IsTrue (g.S.Store.view k.store).is_open → g.L.Layout.is_whole (g.S.Store.view k.store).trees) (sym c.self.view_is) c.requires.whole) (when_err done.result c.if-is_err.ensures.value done.ensures.err))

pub invariant_of-self-else-is_err : goal.invariant_of-self-else-is_err
invariant_of-self-else-is_err g c =
    let it = c.self.inside in
    let done = c.commit-outcome in
    let new = done.new.self in
    lemma.keeps_committed g.L.Layout g.S.Store it.catalog.now it.next it.in_transaction it.store c.self.invariant
    new (g.met.S.Store.shut_if_dirty new) (g.met.S.Store.broken_if_shut it.store) done.ensures.clean done.ensures.crash (subst (λ k. IsClean (g.S.Store.view k.store) × IsTrue (g.S.Store.view k.store).is_open → g.L.Layout.is_whole (g.S.Store.view k.store).trees) (sym c.self.view_is) c.requires.whole) (when_ok done.result c.if-is_err.ensures.value done.ensures.ok)
