-- Events tried in turn: where a trial stands after some of them.
use Rattle.std.proofs.Common.{◌≡◌, ℕ, ◌+◌, ◌<◌, ◌≤◌, Option, Some, None, Ok, List, [], ◌∷◌, length}
use Rattle.std.proofs.Common.{drop, get_or, refl, arith, ap, ◌∙◌, sym, add_assoc, add-zero}
use Rattle.std.proofs.lemmas.List.{drop_more, drop_all}
use Rattle.records.specs.declared.reply.Refusal.{Refusal}
use Rattle.records.specs.Machine.{Machine}
use Rattle.records.specs.Chains.{Rules, trial_of, refusal_behind}
use Rattle.chain.specs.Tables.{Meaning, Tells, Leaves, on_now}
use Rattle.chain.specs.EventLaws.{EventLaws}
use Rattle.chain.specs.InBatch.{IsInBatch, after_event}
use Rattle.chain.proofs.TableCalls.{Joins, HasRun, runs_on, as_one}
use Rattle.chain.proofs.StaysInBatch.{event_keeps_batch}

-- a refusal, so many places on
abbrev pub places_on : {R : Type 0} → ℕ → Option (Refusal R) → Option (Refusal R)
places_on i None = None
places_on i (Some refusal) = Some (record refusal { place = i + refusal.place })

-- a machine that the trial of these events comes to before the event of place i: the trial goes on
-- from there
pub record IsTriedTo {E R : Type 0} (rules : Rules E R) (start : Machine) (events : List E)
    (first i : ℕ) (m : Machine) : Type 0 where
  pub refusal : (trial_of rules start events first).refusal
      ≡ places_on i (trial_of rules m (drop i events) (first + i)).refusal
  pub machine : (trial_of rules start events first).machine
      ≡ (trial_of rules m (drop i events) (first + i)).machine

-- the refusal of an event at a place
abbrev pub refusal_at : {E R : Type 0} → Rules E R → ℕ → E → R → Refusal R
refusal_at rules i ev result =
    record { place = i; result = result; failed_id = rules.failed_id ev result }

trial_none :
    {E R : Type 0} (rules : Rules E R) (m : Machine) (timestamp : ℕ) →
    trial_of rules m [] timestamp ≡ record { refusal = None; machine = m }
unfolding trial_of
trial_none rules m timestamp = refl

trial_accepted :
    {E R : Type 0} (rules : Rules E R) (m : Machine) (ev : E) (events : List E) (timestamp : ℕ) →
    rules.verdict m ev ≡ None →
    trial_of rules m (ev ∷ events) timestamp
    ≡ record (trial_of rules (rules.after m ev timestamp) events (timestamp + 1)) {
      refusal = refusal_behind
          (trial_of rules (rules.after m ev timestamp) events (timestamp + 1)).refusal;
    }
unfolding trial_of
trial_accepted rules m ev events timestamp h = rw h

trial_refused :
    {E R : Type 0} (rules : Rules E R) (m : Machine) (ev : E) (events : List E) (timestamp : ℕ)
    (result : R) → rules.verdict m ev ≡ Some result →
    trial_of rules m (ev ∷ events) timestamp
    ≡ record { refusal = Some (refusal_at rules 0 ev result); machine = m }
unfolding trial_of
trial_refused rules m ev events timestamp result h = rw h

on_none : {R : Type 0} (refusal : Option (Refusal R)) → places_on 0 refusal ≡ refusal
on_none None = refl
on_none (Some refusal) = ap (λ n. Some (record refusal { place = n })) (omega arith)

on_one :
    {R : Type 0} (i : ℕ) (refusal : Option (Refusal R)) →
    places_on i (refusal_behind refusal) ≡ places_on (i + 1) refusal
on_one i None = refl
on_one i (Some refusal) = ap (λ n. Some (record refusal { place = n })) (omega arith)

tried_from :
    {E R : Type 0} (rules : Rules E R) (m : Machine) (events : List E) (first : ℕ) →
    IsTriedTo rules m events first 0 m
tried_from rules m events first = record {
  refusal = rw (add-zero) (sym (on_none _));
  machine = rw (add-zero) refl;
}

tried_on :
    {E R : Type 0} (rules : Rules E R) (start : Machine) (events : List E) (first i : ℕ)
    (m : Machine) (ev : E) → IsTriedTo rules start events first i m → i < length events →
    ev ≡ get_or events i ev → rules.verdict m ev ≡ None →
    IsTriedTo rules start events first (i + 1) (rules.after m ev (first + i))
tried_on rules start events first i m ev so_far within item accepted =
    let split : drop i events ≡ ev ∷ drop (i + 1) events = drop_more events i ev within
    ∙ ap (λ x. x ∷ drop (i + 1) events) (sym item) in
    let rest = trial_of rules (rules.after m ev (first + i)) (drop (i + 1) events)
    (first + (i + 1)) in
    let step : trial_of rules m (drop i events) (first + i)
    ≡ record rest { refusal = refusal_behind rest.refusal } =
    rw (split, ← add_assoc first i 1)
    (trial_accepted rules m ev (drop (i + 1) events) (first + i) accepted) in
    record {
      refusal = so_far.refusal ∙ ap (λ t. places_on i t.refusal) step ∙ on_one i _;
      machine = so_far.machine ∙ ap (λ t. t.machine) step;
    }

tried_up_to :
    {E R : Type 0} (rules : Rules E R) (start : Machine) (events : List E) (first i : ℕ)
    (m : Machine) (ev : E) (result : R) → IsTriedTo rules start events first i m →
    i < length events → ev ≡ get_or events i ev → rules.verdict m ev ≡ Some result →
    ((trial_of rules start events first).refusal ≡ Some (refusal_at rules i ev result))
    × ((trial_of rules start events first).machine ≡ m)
tried_up_to rules start events first i m ev result so_far within item refused =
    let split : drop i events ≡ ev ∷ drop (i + 1) events = drop_more events i ev within
    ∙ ap (λ x. x ∷ drop (i + 1) events) (sym item) in
    let step : trial_of rules m (drop i events) (first + i)
    ≡ record { refusal = Some (refusal_at rules 0 ev result); machine = m } =
    rw split (trial_refused rules m ev (drop (i + 1) events) (first + i) result refused) in (
      so_far.refusal ∙ ap (λ t. places_on i t.refusal) step
          ∙ ap (λ n. Some (refusal_at rules n ev result)) (add-zero i),
      so_far.machine
          ∙ ap (λ t. t.machine) step,
    )

tried_all :
    {E R : Type 0} (rules : Rules E R) (start : Machine) (events : List E) (first i : ℕ)
    (m : Machine) → IsTriedTo rules start events first i m → length events ≤ i →
    ((trial_of rules start events first).refusal ≡ None)
    × ((trial_of rules start events first).machine ≡ m)
tried_all rules start events first i m so_far past =
    let step : trial_of rules m (drop i events) (first + i)
    ≡ record { refusal = None; machine = m } =
    rw (drop_all i events past) (trial_none rules m (first + i)) in (
      so_far.refusal ∙ ap (λ t. places_on i t.refusal) step,
      so_far.machine
          ∙ ap (λ t. t.machine) step,
    )

-- tables on which events are tried in turn, before the event of place i
pub record IsTrying {S E R : Type 0} (t : Meaning S) (rules : Rules E R) (events : List E)
    (first clock i : ℕ) (old new : S) : Type 0 where
  pub run : HasRun t old new
  pub tried : t.is_live new → IsTriedTo rules (t.state old).now events first i (t.state new).now
  pub in_batch : t.is_live new → IsInBatch (t.state new).now clock (first + i)

-- what trying all events is: their first refusal is told, and the machine of the trial is left
pub record IsTrial {S E R : Type 0} (t : Meaning S) (rules : Rules E R) (events : List E)
    (first : ℕ) (old new : S) (refusal : Option (Refusal R)) : Type 0 where
  pub told : Tells t old new (Ok refusal) (λ m. (trial_of rules m events first).refusal)
  pub leaves : Leaves t old new (Ok refusal) (on_now (λ m. (trial_of rules m events first).machine))

after_accepted :
    {E R : Type 0} (rules : Rules E R) (m : Machine) (ev : E) (timestamp : ℕ) →
    rules.verdict m ev ≡ None → after_event rules m ev timestamp ≡ rules.after m ev timestamp
after_accepted rules m ev timestamp h = rw h refl

after_refused :
    {E R : Type 0} (rules : Rules E R) (m : Machine) (ev : E) (timestamp : ℕ) (result : R) →
    rules.verdict m ev ≡ Some result → after_event rules m ev timestamp ≡ m
after_refused rules m ev timestamp result h = rw h refl

pub trying :
    {S E R : Type 0} (t : Meaning S) (rules : Rules E R) (events : List E) (first clock : ℕ)
    (a : S) → t.follows a a → t.is_usable a →
    (t.is_live a → IsInBatch (t.state a).now clock first) →
    IsTrying t rules events first clock 0 a a
trying t rules events first clock a stays usable in_batch = record {
  run = record { now = λ live. refl; usable = usable; follows = stays };
  tried = λ live. tried_from rules (t.state a).now events first;
  in_batch = λ live. rw add-zero (in_batch live);
}

pub trying_on :
    {S E R : Type 0} (t : Meaning S) (rules : Rules E R) (events : List E) (first clock i : ℕ)
    (a b c : S) (ev : E) (r : Option R) → Joins t → EventLaws rules →
    IsTrying t rules events first clock i a b → i < length events → ev ≡ get_or events i ev →
    r ≡ None → Tells t b c (Ok r) (λ m. rules.verdict m ev) →
    Leaves t b c (Ok r) (on_now (λ m. after_event rules m ev (first + i))) →
    IsTrying t rules events first clock (i + 1) a c
trying_on t rules events first clock i a b c ev r joins laws so_far within item none verdict call =
    let was = λ (live : t.is_live c). joins.lived b c call.follows live in
    let left = λ (live : t.is_live c). ap (λ s. s.now) (call.state live) in
    let accepted = λ (live : t.is_live c). sym (verdict live) ∙ none in
    record {
      run = runs_on t a b c r (λ m. after_event rules m ev (first + i)) joins so_far.run call;
      tried = λ live.
          rw (left live, after_accepted rules (t.state b).now ev (first + i) (accepted live))
          (tried_on rules (t.state a).now events first i (t.state b).now ev
          (so_far.tried (was live)) within item (accepted live));
      in_batch = λ live.
          rw (left live, ← add_assoc first i 1)
          (event_keeps_batch rules laws (t.state b).now ev (first + i) clock
          (so_far.in_batch (was live)));
    }

pub tried_to_refusal :
    {S E R : Type 0} (t : Meaning S) (rules : Rules E R) (events : List E) (first clock i : ℕ)
    (a b c : S) (ev : E) (r : Option R) (result : R) → Joins t →
    IsTrying t rules events first clock i a b → i < length events → ev ≡ get_or events i ev →
    r ≡ Some result → Tells t b c (Ok r) (λ m. rules.verdict m ev) →
    Leaves t b c (Ok r) (on_now (λ m. after_event rules m ev (first + i))) →
    IsTrial t rules events first a c (Some (refusal_at rules i ev result))
tried_to_refusal t rules events first clock i a b c ev r result joins so_far within item some
    verdict call =
    let was = λ (live : t.is_live c). joins.lived b c call.follows live in
    let told = λ (live : t.is_live c). sym (verdict live) ∙ some in
    let here = λ (live : t.is_live c). tried_up_to rules (t.state a).now events first i
    (t.state b).now ev result (so_far.tried (was live)) within item (told live) in
    record {
      told = λ live. sym (here live).0;
      leaves = as_one t a c (Some (refusal_at rules i ev result))
          (λ m. (trial_of rules m events first).machine)
          (runs_on t a b c r (λ m. after_event rules m ev (first + i)) joins so_far.run call)
          (λ live. ap (λ s. s.now) (call.state live)
          ∙ after_refused rules (t.state b).now ev (first + i) result (told live)
          ∙ sym (here live).1);
    }

pub tried_whole :
    {S E R : Type 0} (t : Meaning S) (rules : Rules E R) (events : List E) (first clock i : ℕ)
    (a b : S) → IsTrying t rules events first clock i a b → length events ≤ i →
    IsTrial t rules events first a b None
tried_whole t rules events first clock i a b so_far past =
    let here = λ (live : t.is_live b). tried_all rules (t.state a).now events first i
    (t.state b).now (so_far.tried live) past in
    record {
      told = λ live. sym (here live).0;
      leaves = as_one t a b None (λ m. (trial_of rules m events first).machine) so_far.run
          (λ live. sym (here live).1);
    }
