-- The laws of the courses of names.
use Rattle.std.proofs.Common.{◌≡◌, ◌≢◌, ℕ, Bool, true, false, List, [], ◌∷◌, ◌++◌, Some, None}
use Rattle.std.proofs.Common.{Err, IsTrue, inl, inr, bytes_eq, refl, sym, ap, ◌∙◌}
use Rattle.std.proofs.lemmas.Bool.{true≢false}
use Rattle.std.proofs.lemmas.Slice.Eq.{bytes_eq-Decides}
use Rattle.std.specs.List.{AllByRecursion}
use Rattle.service.specs.Courses.{Ending, Done, Declined, Unavailable}
use Rattle.openings.specs.declared.refused.Refused.{Refused}
use Rattle.stored_ledgers.specs.Names.{Names, KeepsNames, GivesName}
use Rattle.store.specs.Deeds.{ending_of, key_ending}
use Rattle.whole_runs.specs.declared.steps.Step.{Step}
use Rattle.whole_runs.specs.declared.steps.Step.TheVariants as step
use Rattle.whole_runs.specs.declared.steps.Answer.{Answer}
use Rattle.whole_runs.specs.declared.steps.Answer.TheVariants as answer
use Rattle.whole_runs.specs.Names.{AsEnded}
use Rattle.whole_runs.specs.NameCourses.{AreNamesAfter, As_first, As_found, As_step, NamesGo}
use Rattle.whole_runs.specs.NameCourses.{Stands, LeavesKeyOf, NamesStay, DigestsStay}

-- whatever has become of a change
as_ended :
    {X Kept Changed : Type 0} (ending : Ending) → AsEnded ending Kept Changed → (Kept → X) →
    (Changed → X) → X
as_ended Done is kept changed = changed is
as_ended Declined is kept changed = kept is
as_ended Unavailable is kept changed = elim is [
  | inl was ↦ kept was
  | inr now ↦ changed now
]

-- the last of some
pub last_of :
    {X : Type 0} (P : X → Type 0) (xs : List X) (x : X) → AllByRecursion P (xs ++ x ∷ []) →
    AllByRecursion P xs × P x
last_of P [] x all = (tt, all.0)
last_of P (y ∷ xs) x all = let rest = last_of P xs x all.1 in ((all.0, rest.0), rest.1)

kept_there : (was names : Names) (name : List ℕ) → KeepsNames was names → was name ≢ None → names name ≢ None
kept_there was names name keeps there none = there (sym (keeps name) ∙ none)

given_by :
    (b : Bool) (given digest : List ℕ) (was names : Names) (name : List ℕ) → bytes_eq name given ≡ b →
    GivesName given digest was names → was name ≢ None → names name ≢ None
given_by true given digest was names name is gives there none =
    let some : Some digest ≡ None =
    sym gives.own ∙ (ap names (sym ((bytes_eq-Decides name given).0 is)) ∙ none) in cc
given_by false given digest was names name is gives there none =
    there
    (sym (gives.others name (λ same. true≢false (sym ((bytes_eq-Decides name given).1 same) ∙ is)))
    ∙ none)

given_there :
    (given digest : List ℕ) (was names : Names) (name : List ℕ) → GivesName given digest was names →
    was name ≢ None → names name ≢ None
given_there given digest was names name = given_by (bytes_eq name given) given digest was names name refl

-- a name that is there stays
go_there :
    (s : Step) (a : Answer) (was names : Names) → NamesGo s a was names → (name : List ℕ) →
    was name ≢ None → names name ≢ None
go_there (step.AddTenant given digest) (answer.Added result) was names go name there =
    as_ended (ending_of result) go (λ keeps. kept_there was names name keeps there)
    (λ adds. given_there given digest was names name adds.1 there)
go_there (step.ChangeKey given digest) (answer.Keyed result) was names go name there =
    as_ended (key_ending result) go (λ keeps. kept_there was names name keeps there)
    (λ moves. given_there given digest was names name moves.1 there)
go_there s a was names go name there = kept_there was names name go there

-- and keeps its digest, unless another is given to it
go_same :
    (s : Step) (a : Answer) (was names : Names) → NamesGo s a was names → (name digest : List ℕ) →
    LeavesKeyOf name s → was name ≡ Some digest → names name ≡ Some digest
go_same (step.AddTenant given key) (answer.Added result) was names go name digest leaves is =
    as_ended (ending_of result) go (λ keeps. keeps name ∙ is)
    (λ adds. adds.1.others name (λ same.
    let none : Some digest ≡ None = sym is ∙ (ap was same ∙ adds.0) in cc) ∙ is)
go_same (step.ChangeKey given key) (answer.Keyed result) was names go name digest leaves is =
    as_ended (key_ending result) go (λ keeps. keeps name ∙ is)
    (λ moves. moves.1.others name (λ same. leaves (sym same)) ∙ is)
go_same s a was names go name digest leaves is = go name ∙ is

unopened : (refused : Refused) → refused.stands ≡ false → IsTrue refused.stands → ⊥
unopened refused is stands = true≢false (sym stands ∙ is)

names_there :
    (first names : Names) (steps : List Step) (answers : List Answer) →
    AreNamesAfter first steps answers names → AllByRecursion Stands answers → (name : List ℕ) →
    first name ≢ None → names name ≢ None
names_there first ns steps_now answers_now (As_first names keeps) stand name there =
    kept_there first names name keeps there
names_there first ns steps_now answers_now (As_found steps answers refused names is) stand name there =
    absurd (unopened refused is (last_of Stands answers (answer.Reopened (Err refused)) stand).1)
names_there first ns steps_now answers_now (As_step steps answers was s a names before go) stand name there =
    go_there s a was names go name
    (names_there first was steps answers before (last_of Stands answers a stand).0 name there)

pub names_stay : NamesStay
names_stay first names steps answers after stand name there =
    names_there first names steps answers after stand name there

names_same :
    (first names : Names) (steps : List Step) (answers : List Answer) →
    AreNamesAfter first steps answers names → AllByRecursion Stands answers →
    (name digest : List ℕ) → AllByRecursion (LeavesKeyOf name) steps → first name ≡ Some digest →
    names name ≡ Some digest
names_same first ns steps_now answers_now (As_first names keeps) stand name digest leave is = keeps name ∙ is
names_same first ns steps_now answers_now (As_found steps answers refused names is) stand name digest leave has =
    absurd (unopened refused is (last_of Stands answers (answer.Reopened (Err refused)) stand).1)
names_same first ns steps_now answers_now (As_step steps answers was s a names before go) stand name digest leave is =
    go_same s a was names go name digest (last_of (LeavesKeyOf name) steps s leave).1
    (names_same first was steps answers before (last_of Stands answers a stand).0 name digest
    (last_of (LeavesKeyOf name) steps s leave).0 is)

pub digests_stay : DigestsStay
digests_stay first names steps answers after stand name digest leave is =
    names_same first names steps answers after stand name digest leave is
