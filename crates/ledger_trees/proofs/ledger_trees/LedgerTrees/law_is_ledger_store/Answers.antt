use Rattle.ledger_trees.proofs.ledger_trees.LedgerTrees.law_is_ledger_store.Goals as goal

pub returns : goal.returns
returns g c = rw (← c.self.view_is) (record { numbered = c.law_is_file.ensures.numbered; sound = λ clean db there. c.law_committed_trees_are_sound.ensures.sound db (c.law_is_file.ensures.left clean db there) })
