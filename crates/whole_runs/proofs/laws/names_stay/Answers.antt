use Rattle.whole_runs.proofs.NameCourseLemmas.{names_stay, digests_stay}
use Rattle.whole_runs.proofs.laws.names_stay.Goals as goal

pub returns-clause-there : goal.returns-clause-there
returns-clause-there c first names steps answers after stand name there =
    names_stay first names steps answers after stand name there

pub returns-clause-digests : goal.returns-clause-digests
returns-clause-digests c first names steps answers after stand name digest leave is =
    digests_stay first names steps answers after stand name digest leave is
