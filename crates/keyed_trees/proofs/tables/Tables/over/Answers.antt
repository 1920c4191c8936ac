use Rattle.keyed_trees.proofs.KeepingLemmas as lemma
use Rattle.keyed_trees.proofs.OpenLemmas.{sound_is_open}
use Rattle.keyed_trees.proofs.tables.Tables.over.Goals as goal

pub returns-then-not-fits-clause-kept : goal.returns-then-not-fits-clause-kept
returns-then-not-fits-clause-kept g c =
    lemma.file_undone g.L.Layout g.S.Store c.args.store c.rollback.new.self c.requires c.rollback.ensures.undone c.rollback.ensures.quiet

pub invariant_of-result : goal.invariant_of-result
invariant_of-result g c =
    let back = c.rollback.new.self in
    let v = g.S.Store.view back in
    let catalog = c.catalog-catalog.result.now in
    rw c.new.ensures (lemma.keeps_fresh g.L.Layout g.S.Store c.args.store back c.requires c.rollback.ensures.undone c.rollback.ensures.quiet catalog c.catalog-catalog.ensures (g.met.S.Store.shut_if_dirty back)
    (λ clean. sound_is_open v (g.met.S.Store.broken_if_shut back) (c.fits.ensures.sound c.if-not-fits.false clean)) (g.met.S.Store.stays back)
    (record {
      are_tables = rw c.tables.ensures at (c.fits.ensures.tables c.if-not-fits.false);
      shaped = lemma.catalog_of v.shape catalog g.L.Layout.keys c.catalog-catalog.ensures g.met.L.Layout.apart (c.fits.ensures.keys c.if-not-fits.false);
      whole = c.fits.ensures.whole c.if-not-fits.false;
    }))

pub returns-clause-open : goal.returns-clause-open
returns-clause-open g c clean =
    let back = c.rollback.new.self in
    sound_is_open (g.S.Store.view back) (g.met.S.Store.broken_if_shut back) (c.fits.ensures.sound c.if-not-fits.false clean)

pub returns-clause-trees : goal.returns-clause-trees
returns-clause-trees g c clean =
    let back = c.rollback.new.self in
    let on = sound_is_open (g.S.Store.view back) (g.met.S.Store.broken_if_shut back) (c.fits.ensures.sound c.if-not-fits.false clean) in
    (lemma.trees_undone g.L.Layout g.S.Store c.args.store back c.requires c.rollback.ensures.undone c.rollback.ensures.quiet clean on).0

pub returns-clause-settled : goal.returns-clause-settled
returns-clause-settled g c clean =
    let back = c.rollback.new.self in
    let on = sound_is_open (g.S.Store.view back) (g.met.S.Store.broken_if_shut back) (c.fits.ensures.sound c.if-not-fits.false clean) in
    (lemma.trees_undone g.L.Layout g.S.Store c.args.store back c.requires c.rollback.ensures.undone c.rollback.ensures.quiet clean on).1
