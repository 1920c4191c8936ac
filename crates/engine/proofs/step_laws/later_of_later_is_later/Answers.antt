use Rattle.engine.proofs.LaterSteps.{later_same, later_more}
use Rattle.engine.proofs.step_laws.later_of_later_is_later.Goals as goal

pub returns-clause-itself : goal.returns-clause-itself
returns-clause-itself c = later_same

pub returns-clause-onward : goal.returns-clause-onward
returns-clause-onward c = later_more
