-- What becomes of events that are sent again in a course.
use Rattle.std.specs.Prelude.{◌≡◌, ℕ, true, List, ◌∷◌, ◌++◌, Option, Some, Ok, All}
use Rattle.records.specs.declared.transfer.TransferEvent.{TransferEvent}
use Rattle.records.specs.Machine.{Machine}
use Rattle.records.specs.Chains.{Rules}
use Rattle.records.specs.Step.{step_outcome, transfer_rules}
use Rattle.records.specs.TransferVerdict.{fails_for_good}
use Rattle.records.specs.Valid.{IsValid}
use Rattle.engine.specs.RetryLaws.{AllAccepted, AddsNothing}
use Rattle.engine.specs.FailedLaws.{AnswersIfFirst, batch_runs, OfEach}
use Rattle.chain.specs.Ledgers.{Tenants}
use Rattle.wire.specs.declared.request.Request.{Request}
use Rattle.wire.specs.declared.request.Request.TheVariants.{Transfers}
use Rattle.service.specs.Deeds.{Asked}
use Rattle.service.specs.Courses.{Event, Course}
use Rattle.service.specs.OwnDeeds.{Happening, deed_of, own_happenings, digest_since, after_all}

-- among what happened to a tenant is a request that was answered, or answered `unavailable` and
-- found done, and this is its machine then
pub record IsAskedEarlier (began : Option Machine) (owns : List Happening) (request : Request)
    (moment : ℕ) (m : Machine) : Type 0 where
  pub before : List Happening
  pub own : Happening
  pub since : List Happening
  pub is : owns ≡ before ++ own ∷ since
  pub caller : List ℕ
  pub asks : deed_of own ≡ Asked caller (Ok request) moment
  pub held : after_all began before ≡ Some m

-- in a course this request of the tenant that had this digest was done at this machine, and it has
-- this one now, under the digest that it has by then
pub record HasAsked (digest : List ℕ) (request : Request) (moment : ℕ) (m now : Machine) :
    Type 0 where
  pub began : Tenants
  pub last : Tenants
  pub events : List Event
  pub course : Course began events last
  pub asked : IsAskedEarlier (began digest) (own_happenings digest events) request moment m
  pub held : last (digest_since digest events) ≡ Some now

-- a batch that was done, and whose every event was accepted, adds nothing when it is sent again
abbrev pub RetriesAddNothing :
    {E R : Type 0} → (List ℕ → Request → ℕ → Machine → Machine → Type 0) → Rules E R → R
    → (List E → Request) → Type 0
RetriesAddNothing {E} WasAsked rules exists asks =
    (digest : List ℕ) (batch : List E) (moment : ℕ) (m now : Machine)
    → WasAsked digest (asks batch) moment m now
    → AllAccepted rules (step_outcome rules m batch moment)
    → (again : ℕ) → AddsNothing rules exists now batch again

-- an event that failed for good stays failed
abbrev pub StaysFailedOnceAsked : (List ℕ → Request → ℕ → Machine → Machine → Type 0) → Type 0
StaysFailedOnceAsked WasAsked =
    (digest : List ℕ) (batch : List TransferEvent) (moment : ℕ) (m now : Machine)
    → WasAsked digest (Transfers batch) moment m now → IsValid now
    → (again : List TransferEvent) (later : ℕ)
    → OfEach
    (λ ev result. fails_for_good result ≡ true
    → All (AnswersIfFirst ev) (batch_runs transfer_rules now again later))
    batch (step_outcome transfer_rules m batch moment)
