-- A run, step by step.
use Rattle.std.proofs.Common.{◌≡◌, List, [], ◌∷◌, ◌++◌, Ok, Err, refl, sym, subst, ap, ◌∙◌, ◌+◌, ◌<◌}
use Rattle.std.proofs.Common.{ℕ, length, take, get_or, add-one}
use Rattle.std.proofs.Common.{Bool, true, false}
use Rattle.std.proofs.Math.Logic.{∥∥₁_elim}
use Rattle.std.proofs.Math.Seq.{take-suc}
use Rattle.std.specs.List.{AllZip}
use Rattle.chain.specs.Ledgers.{Tenants}
use Rattle.service.specs.Deeds.{Deed, Joined, Keyed}
use Rattle.service.specs.Courses.{Event, Tried, Reopened}
use Rattle.service.specs.Openings.{RunMeaning, IsSettled, Moves, HasLed, GoesOn, IsFree}
use Rattle.service.specs.OpeningLaws as openings
use Rattle.service.specs.OpeningLaws.{event_more, same_more, opened_more, begun_anew}
use Rattle.service.specs.TurnLaws.{round_more}
use Rattle.openings.specs.declared.refused.Refused.{Refused}
use Rattle.store.specs.Deeds.{ending_of, key_ending}
use Rattle.whole_runs.specs.declared.steps.Step.{Step}
use Rattle.whole_runs.specs.declared.steps.Step.TheVariants as step
use Rattle.whole_runs.specs.declared.steps.Answer.{Answer}
use Rattle.whole_runs.specs.declared.steps.Answer.TheVariants as answer
use Rattle.whole_runs.specs.Courses.{AreOfStep, HaveComeSince, Start, Anew, Onward}
use Rattle.whole_runs.specs.Names.{NamesMeaning}
use Rattle.whole_runs.specs.Reopenings.{StepMakes, HasNamed, HasRun, IsInOrder, IsAnswerTo, RefusesReopening}
use Rattle.whole_runs.specs.Reopenings.{RunsThrough, Goes_on, StaysFailed}
use Rattle.whole_runs.proofs.NameLemmas.{named_more}

-- behind a step there are its events
step_on :
    (first : Tenants) (steps : List Step) (answers : List Answer) (step : Step) (answer : Answer)
    (events : List Event) → AreOfStep step answer events →
    GoesOn (HaveComeSince first steps answers) events
    (HaveComeSince first (steps ++ step ∷ []) (answers ++ answer ∷ []))
step_on first steps answers step answer more are events began since =
    Onward steps answers events began step answer more since are

module _ {S : Type 0} (t : RunMeaning S) (n : NamesMeaning S) (Refuses : Refused → S → S → Type 0)
    (old mid new : S) (steps : List Step) (answers : List Answer)
    (run : HasRun t old steps answers mid)
  where
    -- an opening that was refused
    refused_more :
        (refused : Refused) → RefusesReopening t Refuses mid refused new →
        (stands : Bool) → refused.stands ≡ stands →
        HasRun t old (steps ++ step.Reopen ∷ []) (answers ++ answer.Reopened (Err refused) ∷ []) new
    refused_more refused makes true is =
        let same =
        same_more (HaveComeSince (t.tenants old) steps answers)
        (HaveComeSince (t.tenants old) (steps ++ step.Reopen ∷ []) (answers ++ answer.Reopened (Err refused) ∷ []))
        t mid (step_on (t.tenants old) steps answers step.Reopen (answer.Reopened (Err refused)) [] is) run in
        record {
          here = λ live. absurd (makes.shut live);
          found = λ found may. ∥∥₁_elim (makes.kept is found may) squash₁ (λ before. same.found found before);
        }
    refused_more refused makes false is =
        begun_anew t
        (HaveComeSince (t.tenants old) (steps ++ step.Reopen ∷ [])
        (answers ++ answer.Reopened (Err refused) ∷ []))
        new (λ began may. Anew steps answers refused began is)

    event_step :
        (step : Step) (answer : Answer) (event : Event) → AreOfStep step answer (event ∷ []) →
        IsFree event → Moves t mid event new →
        HasRun t old (steps ++ step ∷ []) (answers ++ answer ∷ []) new
    event_step step answer event are free moves =
        event_more (HaveComeSince (t.tenants old) steps answers)
        (HaveComeSince (t.tenants old) (steps ++ step ∷ []) (answers ++ answer ∷ [])) t mid new event
        (step_on (t.tenants old) steps answers step answer (event ∷ []) are) free moves run

    -- one step more
    step_more :
        (step : Step) (answer : Answer) → StepMakes t n Refuses mid step answer new →
        HasRun t old (steps ++ step ∷ []) (answers ++ answer ∷ []) new
    step_more (step.Request bytes moment) (answer.Replied reply) makes =
        event_step (step.Request bytes moment) (answer.Replied reply) makes.0.event makes.0.is
        (subst IsFree (sym makes.0.is.is) (λ events. tt)) makes.0.moves
    step_more (step.Round messages) (answer.Round (Ok replies)) makes =
        round_more t (HaveComeSince (t.tenants old) steps answers)
        (HaveComeSince (t.tenants old) (steps ++ step.Round messages ∷ [])
        (answers ++ answer.Round (Ok replies) ∷ []))
        mid new messages.items replies.items
        (step_on (t.tenants old) steps answers (step.Round messages) (answer.Round (Ok replies)))
        makes.0 run
    step_more (step.Round messages) (answer.Round (Err why)) makes =
        subst
        (HasLed t
        (HaveComeSince (t.tenants old) (steps ++ step.Round messages ∷ [])
        (answers ++ answer.Round (Err why) ∷ [])))
        (sym makes.0)
        (same_more (HaveComeSince (t.tenants old) steps answers)
        (HaveComeSince (t.tenants old) (steps ++ step.Round messages ∷ [])
        (answers ++ answer.Round (Err why) ∷ []))
        t mid
        (step_on (t.tenants old) steps answers (step.Round messages) (answer.Round (Err why)) [] tt)
        run)
    step_more (step.AddTenant name digest) (answer.Added result) makes =
        event_step (step.AddTenant name digest) (answer.Added result)
        (Tried (Joined digest) (ending_of result)) refl (λ events. tt) makes.0
    step_more (step.ChangeKey name digest) (answer.Keyed result) makes =
        event_step (step.ChangeKey name digest) (answer.Keyed result)
        (Tried (Keyed makes.0.was digest) (key_ending result)) (makes.0.was, refl) (λ events. tt)
        makes.0.moves
    step_more step.Reopen (answer.Reopened (Ok done)) makes =
        opened_more (HaveComeSince (t.tenants old) steps answers)
        (HaveComeSince (t.tenants old) (steps ++ step.Reopen ∷ []) (answers ++ answer.Reopened (Ok tt) ∷ []))
        t mid new
        (λ (deeds : List Deed).
        step_on (t.tenants old) steps answers step.Reopen (answer.Reopened (Ok tt))
        (Reopened deeds ∷ []) tt)
        makes.0 run
    step_more step.Reopen (answer.Reopened (Err refused)) makes =
        refused_more refused makes.0 refused.stands refl
    step_more step answer makes = absurd makes

-- before the first step
pub none_yet :
    {S : Type 0} (t : RunMeaning S) (old : S) → t.is_live old → IsSettled t old →
    HasRun t old [] [] old
none_yet t old live settled =
    openings.none_yet t (HaveComeSince (t.tenants old) [] []) old (λ found may. live) settled Start

answers_more :
    (steps : List Step) (answers : List Answer) (step : Step) (answer : Answer) →
    AllZip IsAnswerTo steps answers → IsAnswerTo step answer →
    AllZip IsAnswerTo (steps ++ step ∷ []) (answers ++ answer ∷ [])
answers_more [] [] step answer all is = (is, tt)
answers_more [] (a ∷ answers) step answer all is = absurd all
answers_more (s ∷ steps) [] step answer all is = absurd all
answers_more (s ∷ steps) (a ∷ answers) step answer all is =
    (all.0, answers_more steps answers step answer all.1 is)

-- the step at an index is the next one
pub take_step :
    (steps : List Step) (i : ℕ) (step : Step) → i < length steps → step ≡ get_or steps i step →
    take (i + 1) steps ≡ take i steps ++ step ∷ []
take_step steps i step below is =
    rw add-one
    (take-suc steps i step below ∙ ap (λ (s : Step). take i steps ++ s ∷ []) (sym is))

-- so what has come of a run goes on
module _ {S : Type 0} (t : RunMeaning S) (n : NamesMeaning S) (Refuses : Refused → S → S → Type 0)
    (old mid new : S) (steps : List Step) (answers more : List Answer) (i : ℕ) (step : Step)
    (answer : Answer) (below : i < length steps) (is : step ≡ get_or steps i step)
    (grown : more ≡ answers ++ answer ∷ [])
  where
    pub run_on :
        HasRun t old (take i steps) answers mid → StepMakes t n Refuses mid step answer new →
        HasRun t old (take (i + 1) steps) more new
    run_on run makes =
        rw (take_step steps i step below is, grown)
        (step_more t n Refuses old mid new (take i steps) answers run step answer makes)

    pub named_on :
        HasNamed t n old (take i steps) answers mid → StepMakes t n Refuses mid step answer new →
        HasNamed t n old (take (i + 1) steps) more new
    named_on named makes =
        rw (take_step steps i step below is, grown)
        (named_more t n Refuses old mid new (take i steps) answers named step answer makes)

    pub through_on :
        (Failed : S → Type 0) → RunsThrough t n Failed Refuses old (take i steps) answers mid →
        HasRun t old (take i steps) answers mid → HasNamed t n old (take i steps) answers mid →
        StepMakes t n Refuses mid step answer new → StaysFailed Failed mid step new →
        IsInOrder t n new → RunsThrough t n Failed Refuses old (take (i + 1) steps) more new
    through_on Failed through run named makes failed settled =
        rw (take_step steps i step below is, grown)
        (Goes_on (take i steps) answers mid step answer new through makes failed settled
        (step_more t n Refuses old mid new (take i steps) answers run step answer makes)
        (named_more t n Refuses old mid new (take i steps) answers named step answer makes))

pub answered_on :
    (steps : List Step) (answers more : List Answer) (i : ℕ) (step : Step) (answer : Answer) →
    i < length steps → step ≡ get_or steps i step → more ≡ answers ++ answer ∷ [] →
    AllZip IsAnswerTo (take i steps) answers → IsAnswerTo step answer →
    AllZip IsAnswerTo (take (i + 1) steps) more
answered_on steps answers more i step answer below is grown all one =
    rw (take_step steps i step below is, grown)
    (answers_more (take i steps) answers step answer all one)
