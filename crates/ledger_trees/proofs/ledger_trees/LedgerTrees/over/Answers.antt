use Rattle.ledger_trees.proofs.ledger_trees.LedgerTrees.over.Goals as goal

pub over-requires : goal.over-requires
over-requires g c = record { numbered = c.requires.numbered; left = λ clean db there. c.law_committed_trees_are_sound.ensures.whole db (c.requires.sound clean db there) }

pub returns-in-Err-clause-kept : goal.returns-in-Err-clause-kept
returns-in-Err-clause-kept g c = record { numbered = c.in-Err.ensures.kept.numbered; sound = λ clean db there. c.law_committed_trees_are_sound.ensures.sound db (c.in-Err.ensures.kept.left clean db there) }
