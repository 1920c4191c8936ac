use Rattle.std.proofs.Common.{arith}
use Rattle.openings.proofs.FileLemmas.{store_is_clean, store_yields}
use Rattle.openings.proofs.closing.shut.Goals as goal

pub returns-clause-left : goal.returns-clause-left
returns-clause-left g c =
    store_yields _ c.into_store.result c.close.result c.close.ensures _ c.into_store.ensures.numbered
    c.into_store.ensures.sound c.into_store.ensures.quiet.outcomes

pub returns-clause-honest : goal.returns-clause-honest
returns-clause-honest g c clean =
    let is_clean = store_is_clean _ c.into_store.result c.close.result c.close.ensures clean in
    omega (arith, is_clean, c.into_store.ensures.quiet.clean)
