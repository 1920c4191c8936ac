use Rattle.migrate.proofs.CaseLemmas.{migration_apart, sound_not_refused}
use Rattle.migrate.proofs.laws.cases_of_a_migration_are_apart.Goals as goal

pub returns-clause-apart : goal.returns-clause-apart
returns-clause-apart c =
    let cases = c.cases_are_apart.ensures in
    migration_apart c.sound_has_no_damage.ensures cases.apart cases.sound

pub returns-clause-sound : goal.returns-clause-sound
returns-clause-sound c =
    let cases = c.cases_are_apart.ensures in
    sound_not_refused c.sound_has_no_damage.ensures cases.apart cases.sound
