-- A run as a course: its steps, its answers, and what happened.
use Rattle.std.specs.Prelude.{◌≡◌, ℕ, false, List, [], ◌∷◌, ◌++◌, Ok, Err, IsTrue}
use Rattle.chain.specs.Ledgers.{Tenants}
use Rattle.service.specs.Deeds.{Joined, Keyed}
use Rattle.service.specs.Courses.{Event, Tried, Reopened, IsReplyTo}
use Rattle.service.specs.Openings.{CourseSince}
use Rattle.service.specs.OwnDeeds.{SeesItself}
use Rattle.service.specs.Turns.{AreRepliesTo}
use Rattle.openings.specs.declared.refused.Refused.{Refused}
use Rattle.store.specs.Deeds.{ending_of, key_ending}
use Rattle.whole_runs.specs.declared.steps.Step.{Step}
use Rattle.whole_runs.specs.declared.steps.Step.TheVariants as step
use Rattle.whole_runs.specs.declared.steps.Answer.{Answer}
use Rattle.whole_runs.specs.declared.steps.Answer.TheVariants as answer

-- the events are those of a step and its answer: one; or of a round one for each message; and none
-- where nothing was done, or an opening was refused and what it might have found stands
abbrev pub AreOfStep : Step → Answer → List Event → Type 0
AreOfStep (step.Request bytes moment) (answer.Replied reply) (event ∷ []) =
    IsReplyTo bytes.items moment reply event
AreOfStep (step.Round messages) (answer.Round (Ok replies)) events =
    AreRepliesTo messages.items replies.items events
AreOfStep (step.Round messages) (answer.Round (Err why)) [] = Unit {0}
AreOfStep (step.AddTenant name digest) (answer.Added result) (event ∷ []) =
    event ≡ Tried (Joined digest) (ending_of result)
AreOfStep (step.ChangeKey name digest) (answer.Keyed result) (event ∷ []) =
    (was : List ℕ) × (event ≡ Tried (Keyed was digest) (key_ending result))
AreOfStep step.Reopen (answer.Reopened (Ok done)) (Reopened deeds ∷ []) = Unit {0}
AreOfStep step.Reopen (answer.Reopened (Err refused)) [] = IsTrue refused.stands
AreOfStep step answer events = ⊥

-- the events of steps and their answers since the last opening of which nothing stands, or since
-- the beginning where there was none, and the machines at that time. Behind such an opening the
-- machines are taken as the next one finds them.
pub data HaveComeSince (first : Tenants) :
    List Step → List Answer → List Event → Tenants → Type 0 where
  Start : HaveComeSince first [] [] [] first
  Anew :
      (steps : List Step) (answers : List Answer) (refused : Refused) (found : Tenants) →
      refused.stands ≡ false →
      HaveComeSince first (steps ++ step.Reopen ∷ [])
      (answers ++ answer.Reopened (Err refused) ∷ []) []
      found
  Onward :
      (steps : List Step) (answers : List Answer) (events : List Event) (began : Tenants)
      (step : Step) (answer : Answer) (more : List Event) →
      HaveComeSince first steps answers events began → AreOfStep step answer more →
      HaveComeSince first (steps ++ step ∷ []) (answers ++ answer ∷ []) (events ++ more) began

-- a run is the course of these events, from the machines at that time to those now
abbrev pub RunCourse :
    Tenants → List Step → List Answer → List Event → Tenants → Tenants → Type 0
RunCourse first steps answers events began last =
    CourseSince (HaveComeSince first steps answers) events began last

-- in a run each tenant sees its own deeds alone
abbrev pub RunsServeEachAlone : Type 0
RunsServeEachAlone =
    (first began last : Tenants) (steps : List Step) (answers : List Answer) (events : List Event)
    → RunCourse first steps answers events began last
    → (digest : List ℕ) → SeesItself began events last digest
