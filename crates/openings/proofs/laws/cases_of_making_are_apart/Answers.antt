use Rattle.openings.proofs.CaseLemmas.{making_apart, nothing_hindered}
use Rattle.openings.proofs.laws.cases_of_making_are_apart.Goals as goal

pub returns-clause-apart : goal.returns-clause-apart
returns-clause-apart c = making_apart

pub returns-clause-blank : goal.returns-clause-blank
returns-clause-blank c = nothing_hindered
