use Rattle.std.proofs.Common.{◌≡◌, true}
use Rattle.std.specs.Prelude.{All}
use Rattle.records.specs.Step.{step_machine, step_outcome, transfer_rules}
use Rattle.records.specs.TransferVerdict.{fails_for_good}
use Rattle.engine.specs.FailedLaws.{StaysFailed, AnswersIfFirst, batch_runs}
use Rattle.records.specs.Later.{IsLater}
use Rattle.wire.specs.declared.request.Request.TheVariants.{Transfers}
use Rattle.service.proofs.RetryLemmas.{asked_leads, each_on}
use Rattle.service.proofs.laws.failed_in_course_stays_failed.Goals as goal

pub returns : goal.returns
returns c digest batch moment m now asked valid again later =
    each_on
    (λ ev result.
    fails_for_good result ≡ true → StaysFailed (step_machine transfer_rules m batch moment) ev)
    (λ ev result.
    fails_for_good result ≡ true
    → All (AnswersIfFirst ev) (batch_runs transfer_rules now again later))
    batch (step_outcome transfer_rules m batch moment)
    (λ ev result stays fails.
    stays fails now again later valid
    (asked_leads IsLater c.requests_lead_to_later.ensures digest (Transfers batch) moment m now
    asked))
    (c.failed_stays_failed.ensures.failed m batch moment)
