-- What a tenant has asked in the course of a run.
use Rattle.std.specs.Prelude.{◌≡◌, ℕ, true, List, Some, All}
use Rattle.records.specs.declared.transfer.TransferEvent.{TransferEvent}
use Rattle.records.specs.Machine.{Machine}
use Rattle.records.specs.Step.{step_outcome, transfer_rules}
use Rattle.records.specs.TransferVerdict.{fails_for_good}
use Rattle.engine.specs.FailedLaws.{AnswersIfFirst, batch_runs, OfEach}
use Rattle.chain.specs.Ledgers.{Tenants}
use Rattle.wire.specs.declared.request.Request.{Request}
use Rattle.wire.specs.declared.request.Request.TheVariants.{Transfers}
use Rattle.service.specs.Courses.{Event}
use Rattle.service.specs.Openings.{RunMeaning}
use Rattle.service.specs.OwnDeeds.{own_happenings, digest_since}
use Rattle.service.specs.Retries.{IsAskedEarlier}
use Rattle.whole_runs.specs.declared.steps.Step.{Step}
use Rattle.whole_runs.specs.declared.steps.Answer.{Answer}
use Rattle.whole_runs.specs.Courses.{RunCourse}

-- in the course of a run this request of the tenant that had this digest was done at this machine,
-- and it has this one now, under the digest that it has by then
pub record HasAskedInRun (digest : List ℕ) (request : Request) (moment : ℕ) (m now : Machine) :
    Type 0 where
  pub first : Tenants
  pub began : Tenants
  pub last : Tenants
  pub steps : List Step
  pub answers : List Answer
  pub events : List Event
  pub course : RunCourse first steps answers events began last
  pub asked : IsAskedEarlier (began digest) (own_happenings digest events) request moment m
  pub held : last (digest_since digest events) ≡ Some now

-- where a run has come to live ledgers, an event that failed for good in its course stays failed
abbrev pub StaysFailedIn : {S : Type 0} → RunMeaning S → Type 0
StaysFailedIn {S} t =
    (ledgers : S) → t.is_live ledgers
    → (digest : List ℕ) (batch : List TransferEvent) (moment : ℕ) (m now : Machine)
    → (asked : HasAskedInRun digest (Transfers batch) moment m now)
    → asked.last ≡ t.tenants ledgers
    → (again : List TransferEvent) (later : ℕ)
    → OfEach
    (λ ev result. fails_for_good result ≡ true
    → All (AnswersIfFirst ev) (batch_runs transfer_rules now again later))
    batch (step_outcome transfer_rules m batch moment)
