-- A tenant's machine as it is with the settlings between its messages, and as it would be without them.
use Rattle.std.proofs.Common.{◌≡◌, ◌≤◌, ◌<◌, ◌⊎◌, inl, inr, refl, sym, ap, ◌∙◌, subst, ℕ, Bool, true, false, nat_lt, cond, max, List, [], ◌∷◌, length, Option, Some, None, Result, Ok, Err, arith}
use Rattle.std.proofs.Math.Nat.{eq-or-lt_of_le}
use Rattle.std.proofs.lemmas.Bool.{ltb-false}
use Rattle.records.specs.Machine.{Machine}
use Rattle.records.specs.Chains.{Rules, chains_of, after_chains}
use Rattle.records.specs.Step.{at_clock, clock_after, first_timestamp, max_clock, step_machine, step_outcome}
use Rattle.records.specs.Step.{account_rules, transfer_rules}
use Rattle.engine.specs.Settling.{SettlesFirst}
use Rattle.wire.specs.declared.outcome.Outcome.{Outcome}
use Rattle.wire.specs.declared.request.Request.{Request}
use Rattle.wire.specs.declared.request.Request.TheVariants as asks
use Rattle.wire.specs.declared.outcome.Outcome.TheVariants as shown
use Rattle.service.specs.Served.{batch_told, served_by, served_to}
use Rattle.service.specs.Deeds.{Deed, Asked, Joined, Keyed, after_deed}
use Rattle.commands.specs.Unsettled.{is_batch}

-- a machine, and what it is with settlings behind it: it at a later clock, that is no later than this
-- moment
pub record IsSettledTo (now : ℕ) (m with_them : Machine) : Type 0 where
  pub clock : ℕ
  pub is : with_them ≡ at_clock m clock
  pub later : m.clock ≤ clock
  pub early : clock ≤ max now m.clock

abbrev pub AreSettledTo : ℕ → Option Machine → Option Machine → Type 0
AreSettledTo now None None = Unit {0}
AreSettledTo now None (Some with_them) = ⊥
AreSettledTo now (Some m) None = ⊥
AreSettledTo now (Some m) (Some with_them) = IsSettledTo now m with_them

unsettled : (now : ℕ) (m : Machine) → IsSettledTo now m m
unsettled now m = record { clock = m.clock; is = refl; later = omega arith; early = omega arith }

pub both_unsettled : (now : ℕ) (tenant : Option Machine) → AreSettledTo now tenant tenant
both_unsettled now None = tt
both_unsettled now (Some m) = unsettled now m

same_settled : (now : ℕ) (m with_them : Machine) → with_them ≡ m → IsSettledTo now m with_them
same_settled now m with_them same =
    subst (λ (other : Machine). IsSettledTo now m other) (sym same) (unsettled now m)

one_later :
    (now upto : ℕ) (m with_them : Machine) → now ≤ upto → IsSettledTo now m with_them →
    IsSettledTo upto m with_them
one_later now upto m with_them le settled =
    let early = settled.early in
    record { clock = settled.clock; is = settled.is; later = settled.later; early = omega arith }

pub both_later :
    (now upto : ℕ) (tenant with_them : Option Machine) → now ≤ upto →
    AreSettledTo now tenant with_them → AreSettledTo upto tenant with_them
both_later now upto None None le settled = tt
both_later now upto None (Some other) le settled = absurd settled
both_later now upto (Some m) None le settled = absurd settled
both_later now upto (Some m) (Some other) le settled = one_later now upto m other le settled

-- settled once more
module _ (now upto until : ℕ) (le : now ≤ upto) (within : until ≤ upto) where
  settled_at :
      (over : Bool) (m : Machine) (clock : ℕ) → m.clock ≤ clock → clock ≤ max now m.clock →
      IsSettledTo upto m
      (cond over (at_clock m clock)
      (at_clock (at_clock m clock) (clock_after (at_clock m clock) 0 until)))
  settled_at true m clock later early =
      record { clock = clock; is = refl; later = later; early = omega arith }
  settled_at false m clock later early = record {
    clock = clock_after (at_clock m clock) 0 until;
    is = refl;
    later = omega arith;
    early = omega arith;
  }

  settled_by_one :
      (m : Machine) (clock : ℕ) → m.clock ≤ clock → clock ≤ max now m.clock →
      IsSettledTo upto m (step_machine transfer_rules (at_clock m clock) [] until)
  unfolding step_machine chains_of after_chains
  settled_by_one m clock later early =
      settled_at (nat_lt max_clock (clock_after (at_clock m clock) 0 until)) m clock later early

  settled_once :
      (m with_them : Machine) → IsSettledTo now m with_them →
      IsSettledTo upto m (step_machine transfer_rules with_them [] until)
  settled_once m with_them settled =
      subst
      (λ (other : Machine). IsSettledTo upto m (step_machine transfer_rules other [] until))
      (sym settled.is) (settled_by_one m settled.clock settled.later settled.early)

  pub both_settled :
      (digest : List ℕ) (tenant with_them : Option Machine) → AreSettledTo now tenant with_them →
      AreSettledTo upto tenant (after_deed (Asked digest (Ok (asks.Transfers [])) until) with_them)
  both_settled digest None None settled = tt
  both_settled digest None (Some other) settled = absurd settled
  both_settled digest (Some m) None settled = absurd settled
  both_settled digest (Some m) (Some other) settled = settled_once m other settled

-- after a batch
module _ {E R : Type 0} (rules : Rules E R) (settles : SettlesFirst rules) (events : List E)
    (now upto moment : ℕ) (le : now ≤ moment) (within : moment ≤ upto) where
  over_batch :
      (m : Machine) → nat_lt max_clock (clock_after m (length events) moment) ≡ true →
      step_machine rules m events moment ≡ m
  unfolding step_machine
  over_batch m over =
      ap
      (λ (b : Bool).
      cond b m
      (after_chains rules (at_clock m (clock_after m (length events) moment))
      (chains_of rules.linked events)
      (first_timestamp (clock_after m (length events) moment) (length events)))) over

  left_over :
      (over : Bool) (m : Machine) (clock : ℕ) → m.clock ≤ clock → clock ≤ moment →
      nat_lt max_clock (clock_after m (length events) moment) ≡ over →
      IsSettledTo upto (step_machine rules m events moment)
      (step_machine rules (at_clock m clock) events moment)
  left_over false m clock later early is =
      same_settled upto (step_machine rules m events moment)
      (step_machine rules (at_clock m clock) events moment)
      ((settles m clock events moment later early).left
      (ltb-false max_clock (clock_after m (length events) moment) is))
  left_over true m clock later early is =
      let same : clock_after (at_clock m clock) (length events) moment
      ≡ clock_after m (length events) moment = omega arith in
      let too : nat_lt max_clock (clock_after (at_clock m clock) (length events) moment) ≡ true =
      ap (λ (n : ℕ). nat_lt max_clock n) same ∙ is in
      subst
      (λ (left : Machine).
      IsSettledTo upto left (step_machine rules (at_clock m clock) events moment))
      (sym (over_batch m is))
      (subst (λ (left : Machine). IsSettledTo upto m left) (sym (over_batch (at_clock m clock) too))
      (record { clock = clock; is = refl; later = later; early = omega arith }))

  left_at :
      (m : Machine) (clock : ℕ) → (m.clock ≡ clock) ⊎ (m.clock < clock) → clock ≤ max now m.clock →
      IsSettledTo upto (step_machine rules m events moment)
      (step_machine rules (at_clock m clock) events moment)
  left_at m clock (inl same) early =
      same_settled upto (step_machine rules m events moment)
      (step_machine rules (at_clock m clock) events moment)
      (ap (λ (c : ℕ). step_machine rules (at_clock m c) events moment) (sym same))
  left_at m clock (inr later) early =
      left_over (nat_lt max_clock (clock_after m (length events) moment)) m clock (omega arith)
      (omega arith) refl

  pub batch_left :
      (m with_them : Machine) → IsSettledTo now m with_them →
      IsSettledTo upto (step_machine rules m events moment) (step_machine rules with_them events moment)
  batch_left m with_them settled =
      subst
      (λ (other : Machine).
      IsSettledTo upto (step_machine rules m events moment) (step_machine rules other events moment))
      (sym settled.is)
      (left_at m settled.clock (eq-or-lt_of_le settled.later) settled.early)

  told_at :
      (m : Machine) (clock : ℕ) → (m.clock ≡ clock) ⊎ (m.clock < clock) → clock ≤ max now m.clock →
      step_outcome rules (at_clock m clock) events moment ≡ step_outcome rules m events moment
  told_at m clock (inl same) early =
      ap (λ (c : ℕ). step_outcome rules (at_clock m c) events moment) (sym same)
  told_at m clock (inr later) early =
      (settles m clock events moment (omega arith) (omega arith)).told

  pub batch_same :
      (m with_them : Machine) → IsSettledTo now m with_them →
      step_outcome rules with_them events moment ≡ step_outcome rules m events moment
  batch_same m with_them settled =
      ap (λ (other : Machine). step_outcome rules other events moment) settled.is
      ∙ told_at m settled.clock (eq-or-lt_of_le settled.later) settled.early

-- what a tenant asks in time, or otherwise goes through
module _ (accounts : SettlesFirst account_rules) (transfers : SettlesFirst transfer_rules) where
  module _ (now upto moment : ℕ) (within : now ≤ upto) where
    left_so :
        (meaning : Result Request Outcome) →
        (is_batch meaning ≡ true → (now ≤ moment) × (moment ≤ upto)) →
        (m with_them : Machine) → IsSettledTo now m with_them →
        IsSettledTo upto (served_by m meaning moment).left (served_by with_them meaning moment).left
    left_so (Ok (asks.Accounts events)) in_time m other settled =
        let at = in_time refl in
        batch_left account_rules accounts events now upto moment at.0 at.1 m other settled
    left_so (Ok (asks.Transfers events)) in_time m other settled =
        let at = in_time refl in
        batch_left transfer_rules transfers events now upto moment at.0 at.1 m other settled
    left_so (Ok (asks.Read asked)) in_time m other settled = one_later now upto m other within settled
    left_so (Err refusal) in_time m other settled = one_later now upto m other within settled

    both_served :
        (meaning : Result Request Outcome) →
        (is_batch meaning ≡ true → (now ≤ moment) × (moment ≤ upto)) →
        (tenant with_them : Option Machine) → AreSettledTo now tenant with_them →
        AreSettledTo upto (served_to tenant meaning moment).left (served_to with_them meaning moment).left
    both_served meaning in_time None None settled = tt
    both_served meaning in_time None (Some other) settled = absurd settled
    both_served meaning in_time (Some m) None settled = absurd settled
    both_served meaning in_time (Some m) (Some other) settled = left_so meaning in_time m other settled

  -- a batch in time gets the same reply
  told_so :
      (now moment : ℕ) (meaning : Result Request Outcome) → is_batch meaning ≡ true → now ≤ moment →
      (m with_them : Machine) → IsSettledTo now m with_them →
      (served_by with_them meaning moment).told ≡ (served_by m meaning moment).told
  told_so now moment (Ok (asks.Accounts events)) is le m other settled =
      ap (batch_told shown.AccountResults)
      (batch_same account_rules accounts events now moment moment le (omega arith) m other settled)
  told_so now moment (Ok (asks.Transfers events)) is le m other settled =
      ap (batch_told shown.TransferResults)
      (batch_same transfer_rules transfers events now moment moment le (omega arith) m other settled)
  told_so now moment (Ok (asks.Read asked)) is le m other settled = absurd (cc)
  told_so now moment (Err refusal) is le m other settled = absurd (cc)

  pub both_told :
      (now moment : ℕ) (meaning : Result Request Outcome) → is_batch meaning ≡ true → now ≤ moment →
      (tenant with_them : Option Machine) → AreSettledTo now tenant with_them →
      (served_to with_them meaning moment).told ≡ (served_to tenant meaning moment).told
  both_told now moment meaning is le None None settled = refl
  both_told now moment meaning is le None (Some other) settled = absurd settled
  both_told now moment meaning is le (Some m) None settled = absurd settled
  both_told now moment meaning is le (Some m) (Some other) settled =
      told_so now moment meaning is le m other settled

  both_joined :
      (now upto : ℕ) (digest : List ℕ) → now ≤ upto → (tenant with_them : Option Machine) →
      AreSettledTo now tenant with_them →
      AreSettledTo upto (after_deed (Joined digest) tenant) (after_deed (Joined digest) with_them)
  both_joined now upto digest le None None settled = both_unsettled upto (after_deed (Joined digest) None)
  both_joined now upto digest le None (Some other) settled = absurd settled
  both_joined now upto digest le (Some m) None settled = absurd settled
  both_joined now upto digest le (Some m) (Some other) settled = one_later now upto m other le settled

  -- a deed in time
  pub both_done :
      (now upto : ℕ) → now ≤ upto → (deed : Deed) →
      ((digest : List ℕ) (meaning : Result Request Outcome) (moment : ℕ) →
      deed ≡ Asked digest meaning moment → is_batch meaning ≡ true → (now ≤ moment) × (moment ≤ upto)) →
      (tenant with_them : Option Machine) → AreSettledTo now tenant with_them →
      AreSettledTo upto (after_deed deed tenant) (after_deed deed with_them)
  both_done now upto le (Asked digest meaning moment) in_time tenant other settled =
      both_served now upto moment le meaning (in_time digest meaning moment refl) tenant other settled
  both_done now upto le (Joined digest) in_time tenant other settled =
      both_joined now upto digest le tenant other settled
  both_done now upto le (Keyed was is) in_time tenant other settled =
      both_later now upto tenant other le settled
