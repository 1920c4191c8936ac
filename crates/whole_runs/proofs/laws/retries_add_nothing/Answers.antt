use Rattle.wire.specs.declared.request.Request.TheVariants.{Accounts, Transfers}
use Rattle.whole_runs.proofs.Asked.{asked_in_course}
use Rattle.whole_runs.proofs.laws.retries_add_nothing.Goals as goal

pub returns-clause-accounts : goal.returns-clause-accounts
returns-clause-accounts c digest batch moment m now asked =
    c.retried_in_course_adds_nothing.ensures.accounts digest batch moment m now
    (asked_in_course digest (Accounts batch) moment m now asked)

pub returns-clause-transfers : goal.returns-clause-transfers
returns-clause-transfers c digest batch moment m now asked =
    c.retried_in_course_adds_nothing.ensures.transfers digest batch moment m now
    (asked_in_course digest (Transfers batch) moment m now asked)
