use Rattle.openings.proofs.CaseLemmas.{cases_apart, sound_not_refused}
use Rattle.openings.proofs.laws.cases_are_apart.Goals as goal

pub returns-clause-apart : goal.returns-clause-apart
returns-clause-apart c = cases_apart c.sound_has_no_damage.ensures

pub returns-clause-sound : goal.returns-clause-sound
returns-clause-sound c = sound_not_refused c.sound_has_no_damage.ensures
