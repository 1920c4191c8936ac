use Rattle.ledger_layout.proofs.laws.law_committed_trees_are_sound.Goals as goal

pub returns-clause-sound : goal.returns-clause-sound
returns-clause-sound c trees it =
    c.law_whole_trees_are_sound.ensures trees (record { rows = it.consistent.rows; keys = it.whole it.consistent.rows; entries = it.consistent.keyed; objects = it.consistent.listed })

pub returns-clause-whole : goal.returns-clause-whole
returns-clause-whole c trees sound =
    let it = c.law_sound_trees_are_whole.ensures trees sound in
    record { consistent = record { keyed = it.entries; rows = it.rows; listed = it.objects }; whole = λ _. it.keys }
