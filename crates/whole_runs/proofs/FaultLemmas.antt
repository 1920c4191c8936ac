-- Ledgers that have failed.
use Rattle.std.proofs.Common.{◌≡◌, ◌≢◌, ◌+◌, ◌<◌, ℕ, List, [], ◌∷◌, ◌++◌, length, take, get_or}
use Rattle.std.proofs.Common.{refl, sym, subst, ◌∙◌}
use Rattle.std.specs.List.{AllByRecursion}
use Rattle.service.specs.Openings.{RunMeaning}
use Rattle.openings.specs.declared.refused.Refused.{Refused}
use Rattle.whole_runs.specs.declared.steps.Step.{Step}
use Rattle.whole_runs.specs.declared.steps.Step.TheVariants as step
use Rattle.whole_runs.specs.declared.steps.Answer.{Answer}
use Rattle.whole_runs.specs.Names.{NamesMeaning}
use Rattle.whole_runs.specs.Reopenings.{HasNamed, HasRun, OpensNothing, StaysFailed}
use Rattle.whole_runs.specs.Reopenings.{RunsThrough, Begins, Goes_on, NothingLaterIsFound}
use Rattle.whole_runs.proofs.CourseLemmas.{take_step}
use Rattle.whole_runs.proofs.NameCourseLemmas.{last_of}

module _ {S : Type 0} (Failed : S → Type 0) where
  -- they stay as they are in one step more
  one_more :
      (old mid new : S) (steps : List Step) (s : Step) → (Failed old → OpensNothing steps → mid ≡ old) →
      StaysFailed Failed mid s new → Failed old → OpensNothing (steps ++ s ∷ []) → new ≡ old
  one_more old mid new steps s before stays failed nothing =
      let all = last_of (λ (s : Step). s ≢ step.Reopen) steps s nothing in
      let same = before failed all.0 in
      stays (subst Failed (sym same) failed) all.1 ∙ same

  -- in the next step of a run
  pub failed_on :
      (old mid new : S) (steps : List Step) (i : ℕ) (s : Step) → i < length steps →
      s ≡ get_or steps i s → (Failed old → OpensNothing (take i steps) → mid ≡ old) →
      StaysFailed Failed mid s new → Failed old → OpensNothing (take (i + 1) steps) → new ≡ old
  failed_on old mid new steps i s below is before stays failed nothing =
      one_more old mid new (take i steps) s before stays failed
      (subst OpensNothing (take_step steps i s below is) nothing)

  module _ (t : RunMeaning S) (n : NamesMeaning S) (Refuses : Refused → S → S → Type 0) where
    -- and in a whole run
    stay_failed :
        (old new : S) (steps : List Step) (answers : List Answer) →
        RunsThrough t n Failed Refuses old steps answers new → Failed old → OpensNothing steps →
        new ≡ old
    stay_failed old new steps answers (Begins settled) failed nothing = refl
    stay_failed old new steps answers
        (Goes_on before told mid s answer next through makes stays settled run named) failed nothing =
        one_more old mid next before s (stay_failed old mid before told through) stays failed nothing

    -- so nothing of what is asked then is found
    pub nothing_later_is_found : NothingLaterIsFound t n Failed Refuses
    nothing_later_is_found old mid new steps later answers told run named failed through nothing =
        let same = stay_failed mid new later told through failed nothing in (
          subst (HasRun t old steps answers) (sym same) run,
          subst (HasNamed t n old steps answers) (sym same) named,
        )
