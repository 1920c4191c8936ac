use Rattle.whole_runs.proofs.Asked.{asked_in_course}
use Rattle.whole_runs.proofs.laws.told_stays.Goals as goal

pub returns : goal.returns
returns c digest request moment m now asked =
    c.told_in_course_stays.ensures digest request moment m now
    (asked_in_course digest request moment m now asked)
