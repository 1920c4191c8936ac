use Rattle.polling.specs.Serving.{rules}
use Rattle.polling.proofs.CourseLemmas.{is_course, serves_each_alone}
use Rattle.polling.proofs.laws.serving_is_a_course.Goals as goal

pub returns-clause-course : goal.returns-clause-course
returns-clause-course g c =
    is_course (rules g.L.Ledgers.means g.C.Moments.gives g.H.Steward.renews g.H.Steward.waits g.P.Peers.does)
    c.responses_move_within.ensures

pub returns-clause-alone : goal.returns-clause-alone
returns-clause-alone g c =
    serves_each_alone (rules g.L.Ledgers.means g.C.Moments.gives g.H.Steward.renews g.H.Steward.waits g.P.Peers.does)
    c.each_tenant_sees_itself.ensures
