use Rattle.ledger_trees.proofs.ledger_trees.LedgerTrees.into_store.Goals as goal

pub returns-clause-file : goal.returns-clause-file
returns-clause-file g c = record { numbered = c.into_store.ensures.file.numbered; sound = λ clean db there. c.law_committed_trees_are_sound.ensures.sound db (c.into_store.ensures.file.left clean db there) }
