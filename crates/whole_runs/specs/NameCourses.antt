-- The names of tenants in the course of a run, and the laws of them.
use Rattle.std.specs.Prelude.{◌≡◌, ◌≢◌, ℕ, false, List, [], ◌∷◌, ◌++◌, Some, None, Err, IsTrue}
use Rattle.std.specs.List.{AllByRecursion}
use Rattle.openings.specs.declared.refused.Refused.{Refused}
use Rattle.stored_ledgers.specs.Names.{Names, KeepsNames}
use Rattle.store.specs.Deeds.{ending_of, key_ending}
use Rattle.whole_runs.specs.declared.steps.Step.{Step}
use Rattle.whole_runs.specs.declared.steps.Step.TheVariants as step
use Rattle.whole_runs.specs.declared.steps.Answer.{Answer}
use Rattle.whole_runs.specs.declared.steps.Answer.TheVariants as answer
use Rattle.whole_runs.specs.Names.{AsEnded, AddsName, MovesName}

-- what a step and its answer make of the names
abbrev pub NamesGo : Step → Answer → Names → Names → Type 0
NamesGo (step.AddTenant name digest) (answer.Added result) was names =
    AsEnded (ending_of result) (KeepsNames was names) (AddsName name digest was names)
NamesGo (step.ChangeKey name digest) (answer.Keyed result) was names =
    AsEnded (key_ending result) (KeepsNames was names) (MovesName name digest was names)
NamesGo step answer was names = KeepsNames was names

-- the names after steps and their answers: of changes that were answered `unavailable`, some are
-- there. Behind an opening of which nothing stands they are taken as the next one finds them.
pub data AreNamesAfter (first : Names) : List Step → List Answer → Names → Type 0 where
  As_first : (names : Names) → KeepsNames first names → AreNamesAfter first [] [] names
  As_found :
      (steps : List Step) (answers : List Answer) (refused : Refused) (names : Names) →
      refused.stands ≡ false →
      AreNamesAfter first (steps ++ step.Reopen ∷ [])
      (answers ++ answer.Reopened (Err refused) ∷ [])
      names
  As_step :
      (steps : List Step) (answers : List Answer) (was : Names) (step : Step) (answer : Answer)
      (names : Names) → AreNamesAfter first steps answers was → NamesGo step answer was names →
      AreNamesAfter first (steps ++ step ∷ []) (answers ++ answer ∷ []) names

-- no opening was refused so that nothing stands
abbrev pub Stands : Answer → Type 0
Stands (answer.Reopened (Err refused)) = IsTrue refused.stands
Stands answer = Unit {0}

-- no name goes away
abbrev pub NamesStay : Type 0
NamesStay =
    (first names : Names) (steps : List Step) (answers : List Answer)
    → AreNamesAfter first steps answers names
    → AllByRecursion Stands answers
    → (name : List ℕ) → first name ≢ None → names name ≢ None

-- the step does not ask another key for this name
abbrev pub LeavesKeyOf : List ℕ → Step → Type 0
LeavesKeyOf name (step.ChangeKey other digest) = other ≢ name
LeavesKeyOf name step = Unit {0}

-- and each keeps its digest, as long as no other key is asked for it
abbrev pub DigestsStay : Type 0
DigestsStay =
    (first names : Names) (steps : List Step) (answers : List Answer)
    → AreNamesAfter first steps answers names
    → AllByRecursion Stands answers
    → (name digest : List ℕ) → AllByRecursion (LeavesKeyOf name) steps
    → first name ≡ Some digest → names name ≡ Some digest
