-- The names of tenants behind one step more.
use Rattle.std.proofs.Common.{◌≡◌, ◌≢◌, ℕ, Bool, true, false, List, [], ◌∷◌, ◌++◌, Option, Some, None}
use Rattle.std.proofs.Common.{Result, Ok, Err, inl, inr, refl, sym, subst, ◌∙◌}
use Rattle.std.proofs.Math.Logic.{∥∥₁_elim, ∥∥₁_map}
use Rattle.service.specs.Courses.{Ending, Done, Declined, Unavailable}
use Rattle.service.specs.Openings.{RunMeaning}
use Rattle.openings.specs.declared.refused.Refused.{Refused}
use Rattle.stored_ledgers.specs.declared.joining.AddTenant.{AddTenant}
use Rattle.stored_ledgers.specs.declared.joining.AddTenant.TheVariants as add
use Rattle.stored_ledgers.specs.declared.keying.ChangeKey.{ChangeKey}
use Rattle.stored_ledgers.specs.declared.keying.ChangeKey.TheVariants as key
use Rattle.stored_ledgers.specs.Names.{Names, KeepsNames, GivesName}
use Rattle.store.specs.Deeds.{ending_of, key_ending}
use Rattle.whole_runs.specs.declared.steps.Step.{Step}
use Rattle.whole_runs.specs.declared.steps.Step.TheVariants as step
use Rattle.whole_runs.specs.declared.steps.Answer.{Answer}
use Rattle.whole_runs.specs.declared.steps.Answer.TheVariants as answer
use Rattle.whole_runs.specs.Names.{AsEnded, AddsName, MovesName, JoinsNames, KeysNames, NamesMeaning}
use Rattle.whole_runs.specs.Names.{AreNamesSettled, LeavesNames, FindsChanged}
use Rattle.whole_runs.specs.NameCourses.{AreNamesAfter, As_first, As_found, As_step, NamesGo}
use Rattle.whole_runs.specs.Reopenings.{StepMakes, HasNamed}

-- what a joining makes of names is what it does as it ended
pub joins_go :
    (name digest : List ℕ) (was names : Names) (result : Result (Unit {0}) AddTenant) →
    JoinsNames name digest was result names →
    AsEnded (ending_of result) (KeepsNames was names) (AddsName name digest was names)
joins_go name digest was names (Ok done) joins = joins
joins_go name digest was names (Err add.NameTaken) joins = joins.1
joins_go name digest was names (Err add.DigestTaken) joins = joins.1
joins_go name digest was names (Err (add.Unavailable why)) joins = inl joins

pub some_named : (found : Option (List ℕ)) (digest : List ℕ) → found ≡ Some digest → found ≢ None
some_named found digest is none = let both : Some digest ≡ None = sym is ∙ none in cc

pub keys_go :
    (name before digest : List ℕ) (was names : Names) (result : Result (Unit {0}) ChangeKey) →
    KeysNames name before digest was result names →
    AsEnded (key_ending result) (KeepsNames was names) (MovesName name digest was names)
keys_go name before digest was names (Ok done) keys = (some_named (was name) before keys.0, keys.1)
keys_go name before digest was names (Err key.NoTenant) keys = keys.1
keys_go name before digest was names (Err key.DigestTaken) keys = keys.2
keys_go name before digest was names (Err (key.Unavailable why)) keys = inl keys

-- what is found where an opening finds the names that are there
pub gives_on :
    (name digest : List ℕ) (was names found : Names) → GivesName name digest was names →
    KeepsNames names found → GivesName name digest was found
gives_on name digest was names found gives keeps = record {
  own = keeps name ∙ gives.own;
  others = λ other differs. keeps other ∙ gives.others other differs;
}

-- before the first step
pub none_named_yet :
    {S : Type 0} (t : RunMeaning S) (n : NamesMeaning S) (old : S) → t.is_live old →
    AreNamesSettled t n old → HasNamed t n old [] [] old
none_named_yet t n old live settled = record {
  here = λ still. ∣ As_first (n.named old) (λ name. refl) ∣₁;
  found = λ found may. ∣ As_first found (settled live found may) ∣₁;
}

module _ {S : Type 0} (t : RunMeaning S) (n : NamesMeaning S) (Refuses : Refused → S → S → Type 0)
    (old mid new : S) (steps : List Step) (answers : List Answer)
    (named : HasNamed t n old steps answers mid)
  where
    abbrev Behind : Step → Answer → Type 0
    Behind s a = HasNamed t n old (steps ++ s ∷ []) (answers ++ a ∷ []) new

    -- the names that an opening may have found before
    abbrev After : Step → Answer → Names → Type 0
    After s a names = ∥ AreNamesAfter (n.named old) (steps ++ s ∷ []) (answers ++ a ∷ []) names ∥₁

    from_found :
        (s : Step) (a : Answer) (was names : Names) → NamesGo s a was names →
        n.may_find mid was → After s a names
    from_found s a was names go before =
        ∥∥₁_map (named.found was before) (λ after. As_step steps answers was s a names after go)

    from_here :
        (s : Step) (a : Answer) (names : Names) → t.is_live mid → NamesGo s a (n.named mid) names →
        After s a names
    from_here s a names live go =
        ∥∥₁_map (named.here live) (λ after. As_step steps answers (n.named mid) s a names after go)

    -- a step that changes no names
    left_more :
        (s : Step) (a : Answer) →
        ((was names : Names) → KeepsNames was names → NamesGo s a was names) →
        (t.is_live new → t.is_live mid) → LeavesNames t n mid new → Behind s a
    left_more s a goes lived leaves = record {
      here = λ live. from_here s a (n.named new) (lived live) (goes _ _ (leaves.same live));
      found = λ found may. ∥∥₁_elim (leaves.found found may) squash₁
          (from_found s a found found (goes found found (λ name. refl)));
    }

    -- a change that was tried
    module _ (s : Step) (a : Answer) (Changes : Names → Names → Type 0) where
      changed_by :
          (ending : Ending) (found : Names) →
          ((was names : Names) → AsEnded ending (KeepsNames was names) (Changes was names)
          → NamesGo s a was names) →
          AsEnded ending (n.may_find mid found) (t.is_live mid × Changes (n.named mid) found) →
          After s a found
      changed_by Done found goes is = from_here s a found is.0 (goes (n.named mid) found is.1)
      changed_by Declined found goes is = from_found s a found found (goes found found (λ name. refl)) is
      changed_by Unavailable found goes is = elim is [
        | inl before ↦ from_found s a found found (goes found found (inl (λ name. refl))) before
        | inr now ↦ from_here s a found now.0 (goes (n.named mid) found (inr now.1))
      ]

      changed_more :
          (ending : Ending) →
          ((was names : Names) → AsEnded ending (KeepsNames was names) (Changes was names)
          → NamesGo s a was names) →
          (t.is_live new → t.is_live mid) →
          (t.is_live new → AsEnded ending (KeepsNames (n.named mid) (n.named new))
          (Changes (n.named mid) (n.named new))) →
          FindsChanged t n Changes mid ending new → Behind s a
      changed_more ending goes lived told finds = record {
        here = λ live. from_here s a (n.named new) (lived live) (goes _ _ (told live));
        found = λ found may. ∥∥₁_elim (finds found may) squash₁ (changed_by ending found goes);
      }

    -- an opening that was refused
    refused_named :
        (refused : Refused) → StepMakes t n Refuses mid step.Reopen (answer.Reopened (Err refused)) new →
        (stands : Bool) → refused.stands ≡ stands → Behind step.Reopen (answer.Reopened (Err refused))
    refused_named refused makes true is = record {
      here = λ live. absurd (makes.0.shut live);
      found = λ found may. ∥∥₁_elim (makes.1 is found may) squash₁
          (from_found step.Reopen (answer.Reopened (Err refused)) found found (λ name. refl));
    }
    refused_named refused makes false is = record {
      here = λ live. absurd (makes.0.shut live);
      found = λ found may. ∣ As_found steps answers refused found is ∣₁;
    }

    -- one step more
    pub named_more : (s : Step) (a : Answer) → StepMakes t n Refuses mid s a new → Behind s a
    named_more (step.Request bytes moment) (answer.Replied reply) makes =
        left_more (step.Request bytes moment) (answer.Replied reply) (λ was names keeps. keeps)
        makes.0.moves.lived makes.1
    named_more (step.Request bytes moment) (answer.Round result) makes = absurd makes
    named_more (step.Request bytes moment) (answer.Added result) makes = absurd makes
    named_more (step.Request bytes moment) (answer.Keyed result) makes = absurd makes
    named_more (step.Request bytes moment) (answer.Reopened result) makes = absurd makes
    named_more (step.Round messages) (answer.Round (Ok replies)) makes =
        left_more (step.Round messages) (answer.Round (Ok replies)) (λ was names keeps. keeps)
        makes.0.lived makes.1
    named_more (step.Round messages) (answer.Round (Err why)) makes =
        left_more (step.Round messages) (answer.Round (Err why)) (λ was names keeps. keeps)
        (subst t.is_live makes.0) makes.1
    named_more (step.Round messages) (answer.Replied reply) makes = absurd makes
    named_more (step.Round messages) (answer.Added result) makes = absurd makes
    named_more (step.Round messages) (answer.Keyed result) makes = absurd makes
    named_more (step.Round messages) (answer.Reopened result) makes = absurd makes
    named_more (step.AddTenant name digest) (answer.Added result) makes =
        changed_more (step.AddTenant name digest) (answer.Added result) (AddsName name digest)
        (ending_of result) (λ was names ended. ended) makes.0.lived
        (λ live. joins_go name digest _ _ result (makes.2.told live)) makes.2.found
    named_more (step.AddTenant name digest) (answer.Replied reply) makes = absurd makes
    named_more (step.AddTenant name digest) (answer.Round result) makes = absurd makes
    named_more (step.AddTenant name digest) (answer.Keyed result) makes = absurd makes
    named_more (step.AddTenant name digest) (answer.Reopened result) makes = absurd makes
    named_more (step.ChangeKey name digest) (answer.Keyed result) makes =
        changed_more (step.ChangeKey name digest) (answer.Keyed result) (MovesName name digest)
        (key_ending result) (λ was names ended. ended) makes.0.moves.lived
        (λ live. keys_go name makes.0.was digest _ _ result (makes.0.told live)) makes.0.found
    named_more (step.ChangeKey name digest) (answer.Replied reply) makes = absurd makes
    named_more (step.ChangeKey name digest) (answer.Round result) makes = absurd makes
    named_more (step.ChangeKey name digest) (answer.Added result) makes = absurd makes
    named_more (step.ChangeKey name digest) (answer.Reopened result) makes = absurd makes
    named_more step.Reopen (answer.Reopened (Ok done)) makes = record {
      here = λ live. ∥∥₁_elim (makes.1.member live) squash₁
          (from_found step.Reopen (answer.Reopened (Ok done)) (n.named new) (n.named new)
          (λ name. refl));
      found = λ found may.
          let is = makes.1.found found may in
          ∥∥₁_elim (makes.1.member is.0) squash₁
          (from_found step.Reopen (answer.Reopened (Ok done)) (n.named new) found is.1);
    }
    named_more step.Reopen (answer.Reopened (Err refused)) makes =
        refused_named refused makes refused.stands refl
    named_more step.Reopen (answer.Replied reply) makes = absurd makes
    named_more step.Reopen (answer.Round result) makes = absurd makes
    named_more step.Reopen (answer.Added result) makes = absurd makes
    named_more step.Reopen (answer.Keyed result) makes = absurd makes
