use Rattle.records.specs.Later.{IsLater}
use Rattle.wire.specs.declared.request.Request.TheVariants.{Accounts, Transfers}
use Rattle.service.proofs.RetryLemmas.{asked_leads}
use Rattle.service.proofs.laws.retried_in_course_adds_nothing.Goals as goal

pub returns-clause-accounts : goal.returns-clause-accounts
returns-clause-accounts c digest batch moment m now asked accepted again =
    c.retry_adds_nothing.ensures.accounts m now batch moment again accepted
    (asked_leads IsLater c.requests_lead_to_later.ensures digest (Accounts batch) moment m now
    asked)

pub returns-clause-transfers : goal.returns-clause-transfers
returns-clause-transfers c digest batch moment m now asked accepted again =
    c.retry_adds_nothing.ensures.transfers m now batch moment again accepted
    (asked_leads IsLater c.requests_lead_to_later.ensures digest (Transfers batch) moment m now
    asked)
