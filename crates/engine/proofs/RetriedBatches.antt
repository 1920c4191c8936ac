-- A batch of accepted events that is sent again to a later machine adds nothing.
use Rattle.std.proofs.Common.{◌≡◌, ◌≢◌, ◌+◌, ◌-◌, ℕ, Bool, true, false, nat_lt, cond, List, [], ◌∷◌, ◌++◌, length, replicate, map, Option, Some, None, refl, sym, ap, ◌∙◌, subst, arith}
use Rattle.std.specs.List.{All, flat_map}
use Rattle.std.proofs.lemmas.List.Elements.{All-head, All-tail, All-nil, All-cons}
use Rattle.records.specs.declared.reply.EventResult.{EventResult}
use Rattle.records.specs.declared.reply.Refusal.{Refusal}
use Rattle.records.specs.declared.account_result.AccountResult.TheVariants as account_answer
use Rattle.records.specs.declared.transfer_result.TransferResult.TheVariants as transfer_answer
use Rattle.records.specs.Machine.{Machine}
use Rattle.records.specs.Chains.{Rules, Chain, Trial, chains_of, chain_size, with_linked, trial_of, trial_by, refusal_behind, fallen_results, closed_results, after_closed, chain_results, after_chain, chains_results, after_chains}
use Rattle.records.specs.Chains.Chain.{Closed, Open}
use Rattle.records.specs.Step.{Answered, Exhausted, account_rules, transfer_rules, at_clock, max_clock, clock_after, first_timestamp, with_timestamps, step_outcome, step_machine}
use Rattle.records.specs.Later.{IsLater}
use Rattle.engine.proofs.EarlierLemmas.{all_left, all_right}
use Rattle.engine.specs.RetryLaws.{AllAccepted, retried_chain, IsToldExists, RetryAddsNothing}
use Rattle.engine.proofs.LaterSteps.{Grows, accounts_grow, transfers_grow, later_more, later_clock, later_trial, later_chains}
use Rattle.engine.proofs.RefusalLemmas.{accounts_refuse, transfers_refuse}
use Rattle.engine.proofs.RetriedEvents.{account_exists, transfer_exists}

-- what rules have to meet: an accepted event exists in each later machine, and no refusal is told as accepted
pub record IsRetriable {E R : Type 0} (rules : Rules E R) (exists : R) : Type 0 where
  pub grows : Grows rules
  pub again : (m later : Machine) (ev : E) (timestamp : ℕ) → rules.verdict m ev ≡ None → IsLater (rules.after m ev timestamp) later → rules.verdict later ev ≡ Some exists
  pub refuses : (m : Machine) (ev : E) (result : R) → rules.verdict m ev ≡ Some result → result ≢ rules.accepted
  pub failed : rules.chain_failed ≢ rules.accepted
  pub left_open : rules.chain_open ≢ rules.accepted
  pub unfailing : (ev : E) → rules.failed_id ev exists ≡ None

pub accounts_retriable : IsRetriable account_rules account_answer.Exists
accounts_retriable = record { grows = accounts_grow; again = account_exists; refuses = accounts_refuse; failed = λ h. absurd (cc); left_open = λ h. absurd (cc); unfailing = λ ev. refl }

pub transfers_retriable : IsRetriable transfer_rules transfer_answer.Exists
transfers_retriable = record { grows = transfers_grow; again = transfer_exists; refuses = transfers_refuse; failed = λ h. absurd (cc); left_open = λ h. absurd (cc); unfailing = λ ev. refl }

-- a refusal that is not told as accepted
abbrev IsRefusal : {R : Type 0} → R → Option (Refusal R) → Type 0
IsRefusal accepted None = Unit {0}
IsRefusal accepted (Some refusal) = refusal.result ≢ accepted

refusal_one_on : {R : Type 0} (accepted : R) (refusal : Option (Refusal R)) → IsRefusal accepted refusal → IsRefusal accepted (refusal_behind refusal)
refusal_one_on accepted None h = tt
refusal_one_on accepted (Some refusal) h = h

refusal_first : {R : Type 0} (accepted : R) (m : Machine) (failed_id : R → Option ℕ) (verdict : Option R) (rest : Trial R) → ((result : R) → verdict ≡ Some result → result ≢ accepted) → IsRefusal accepted rest.refusal → IsRefusal accepted (trial_by m failed_id verdict rest).refusal
refusal_first accepted m failed_id (Some result) rest own h = own result refl
refusal_first accepted m failed_id None rest own h = refusal_one_on accepted rest.refusal h

refusal_of : {E R : Type 0} (rules : Rules E R) (exists : R) → IsRetriable rules exists → (m : Machine) (events : List E) (timestamp : ℕ) → IsRefusal rules.accepted (trial_of rules m events timestamp).refusal
unfolding trial_of
refusal_of rules exists r m [] timestamp = tt
refusal_of rules exists r m (ev ∷ events) timestamp =
    let next = rules.after m ev timestamp in
    refusal_first rules.accepted m (rules.failed_id ev) (rules.verdict m ev) (trial_of rules next events (timestamp + 1)) (r.refuses m ev) (refusal_of rules exists r next events (timestamp + 1))

-- a closed chain whose results are all that of an accepted event has no refusal
none_refused : {E R : Type 0} (rules : Rules E R) (refusal : Option (Refusal R)) (n : ℕ) → IsRefusal rules.accepted refusal → All (λ result. result ≡ rules.accepted) (closed_results rules n refusal) → refusal ≡ None
none_refused rules None n h all = refl
none_refused {E} {R} rules (Some refusal) n h all =
    let behind = replicate (n - refusal.place - 1) rules.chain_failed in
    let own = all_right (λ (result : R). result ≡ rules.accepted) (replicate refusal.place rules.chain_failed) (refusal.result ∷ behind) all in
    absurd (h (All-head (λ (result : R). result ≡ rules.accepted) refusal.result behind own))

-- an open chain has a result that is not
open_not_accepted : {E R : Type 0} (rules : Rules E R) (refusal : Option (Refusal R)) (n : ℕ) → rules.chain_open ≢ rules.accepted → All (λ result. result ≡ rules.accepted) (fallen_results rules n refusal ++ rules.chain_open ∷ []) → ⊥
open_not_accepted {E} {R} rules refusal n h all = h (All-head (λ (result : R). result ≡ rules.accepted) rules.chain_open [] (all_right (λ (result : R). result ≡ rules.accepted) (fallen_results rules n refusal) (rules.chain_open ∷ []) all))

-- where no event of a trial is refused, the first is accepted
none_behind : {R : Type 0} (refusal : Option (Refusal R)) → refusal_behind refusal ≡ None → refusal ≡ None
none_behind None h = refl
none_behind (Some refusal) h = absurd (cc)

first_accepted : {R : Type 0} (m : Machine) (failed_id : R → Option ℕ) (verdict : Option R) (rest : Trial R) → (trial_by m failed_id verdict rest).refusal ≡ None → (verdict ≡ None) × ((trial_by m failed_id verdict rest).machine ≡ rest.machine)
first_accepted m failed_id None rest h = (refl, refl)
first_accepted m failed_id (Some result) rest h = absurd (cc)

trial_first : {E R : Type 0} (rules : Rules E R) → Grows rules → (m : Machine) (ev : E) (events : List E) (timestamp : ℕ) → (trial_of rules m (ev ∷ events) timestamp).refusal ≡ None → (rules.verdict m ev ≡ None) × IsLater (rules.after m ev timestamp) (trial_of rules m (ev ∷ events) timestamp).machine
unfolding trial_of
trial_first rules grows m ev events timestamp h =
    let next = rules.after m ev timestamp in
    let rest = trial_of rules next events (timestamp + 1) in
    let parts = first_accepted m (rules.failed_id ev) (rules.verdict m ev) rest h in
    (parts.0, subst (IsLater next) (sym parts.1) (later_trial rules grows next events (timestamp + 1)))

-- a trial whose first event is refused
pub trial_refused : {E R : Type 0} (rules : Rules E R) (m : Machine) (ev : E) (events : List E) (timestamp : ℕ) (result : R) → rules.verdict m ev ≡ Some result → trial_of rules m (ev ∷ events) timestamp ≡ record { refusal = Some (record { place = 0; result = result; failed_id = rules.failed_id ev result }); machine = m }
unfolding trial_of
trial_refused rules m ev events timestamp result h = rw h refl

-- a closed chain whose first event is refused with a result that leaves no failed id
pub record FallsAtFirst {E R : Type 0} (rules : Rules E R) (result : R) (m : Machine) (ev : E) (events : List E) (timestamp : ℕ) : Type 0 where
  pub told : chain_results rules m (Closed (ev ∷ events)) timestamp ≡ result ∷ replicate (length events) rules.chain_failed
  pub left : after_chain rules m (Closed (ev ∷ events)) timestamp ≡ m

pub falls_at_first : {E R : Type 0} (rules : Rules E R) (result : R) (m : Machine) (ev : E) (events : List E) (timestamp : ℕ) → rules.verdict m ev ≡ Some result → rules.failed_id ev result ≡ None → FallsAtFirst rules result m ev events timestamp
unfolding chain_results after_chain
falls_at_first rules result m ev events timestamp refused none =
    let same = trial_refused rules m ev events timestamp result refused in
    record { told = rw same (ap (λ n. result ∷ replicate n rules.chain_failed) (omega arith)); left = rw (same, none) refl }

-- what is told of a chain that is sent again, and what it leaves
record IsRetried {E R : Type 0} (rules : Rules E R) (exists : R) (later : Machine) (chain : Chain E) (timestamp : ℕ) : Type 0 where
  told : chain_results rules later chain timestamp ≡ retried_chain rules exists chain
  left : after_chain rules later chain timestamp ≡ later

abbrev IsNonempty : {E : Type 0} → Chain E → Type 0
IsNonempty (Closed []) = ⊥
IsNonempty (Closed (ev ∷ events)) = Unit {0}
IsNonempty (Open events) = Unit {0}

closed_kept : {R : Type 0} (m : Machine) (trial : Trial R) (refusal : Option (Refusal R)) → refusal ≡ None → after_closed m trial refusal ≡ trial.machine
closed_kept m trial refusal h = rw h refl

chain_retried : {E R : Type 0} (rules : Rules E R) (exists : R) → IsRetriable rules exists → (m later : Machine) (chain : Chain E) (timestamp again : ℕ) → IsNonempty chain → All (λ result. result ≡ rules.accepted) (chain_results rules m chain timestamp) → IsLater (after_chain rules m chain timestamp) later → IsRetried rules exists later chain again
unfolding chain_results after_chain
chain_retried rules exists r m later (Open events) timestamp again some all more = absurd (open_not_accepted rules (trial_of rules m events timestamp).refusal (length events) r.left_open all)
chain_retried rules exists r m later (Closed []) timestamp again some all more = absurd some
chain_retried rules exists r m later (Closed (ev ∷ events)) timestamp again some all more =
    let trial = trial_of rules m (ev ∷ events) timestamp in
    let none = none_refused rules trial.refusal (length (ev ∷ events)) (refusal_of rules exists r m (ev ∷ events) timestamp) all in
    let first = trial_first rules r.grows m ev events timestamp none in
    let after = subst (λ (n : Machine). IsLater n later) (closed_kept m trial trial.refusal none) more in
    let told = r.again m later ev timestamp first.0 (later_more (rules.after m ev timestamp) trial.machine later first.1 after) in
    let falls = falls_at_first rules exists later ev events again told (r.unfailing ev) in
    record { told = falls.told ∙ ap (λ n. exists ∷ replicate n rules.chain_failed) (omega arith); left = falls.left }

abbrev AllNonempty : {E : Type 0} → List (Chain E) → Type 0
AllNonempty [] = Unit {0}
AllNonempty (chain ∷ chains) = IsNonempty chain × AllNonempty chains

tied_nonempty : {E : Type 0} (ev : E) (chains : List (Chain E)) → AllNonempty chains → AllNonempty (with_linked ev chains)
tied_nonempty ev [] h = (tt, tt)
tied_nonempty ev (Closed events ∷ chains) h = (tt, h.1)
tied_nonempty ev (Open events ∷ chains) h = (tt, h.1)

either_nonempty : {E : Type 0} (b : Bool) (xs ys : List (Chain E)) → AllNonempty xs → AllNonempty ys → AllNonempty (cond b xs ys)
either_nonempty true xs ys h k = h
either_nonempty false xs ys h k = k

chains_nonempty : {E : Type 0} (linked : E → Bool) (batch : List E) → AllNonempty (chains_of linked batch)
unfolding chains_of
chains_nonempty linked [] = tt
chains_nonempty linked (ev ∷ batch) =
    let rest = chains_nonempty linked batch in
    either_nonempty (linked ev) (with_linked ev (chains_of linked batch)) (Closed (ev ∷ []) ∷ chains_of linked batch) (tied_nonempty ev (chains_of linked batch) rest) (tt, rest)

-- chains in turn
record AreRetried {E R : Type 0} (rules : Rules E R) (exists : R) (later : Machine) (chains : List (Chain E)) (timestamp : ℕ) : Type 0 where
  told : chains_results rules later chains timestamp ≡ flat_map (retried_chain rules exists) chains
  left : after_chains rules later chains timestamp ≡ later

chains_retried : {E R : Type 0} (rules : Rules E R) (exists : R) → IsRetriable rules exists → (m later : Machine) (chains : List (Chain E)) (timestamp again : ℕ) → AllNonempty chains → All (λ result. result ≡ rules.accepted) (chains_results rules m chains timestamp) → IsLater (after_chains rules m chains timestamp) later → AreRetried rules exists later chains again
unfolding chains_results after_chains
chains_retried rules exists r m later [] timestamp again some all more = record { told = refl; left = refl }
chains_retried {E} {R} rules exists r m later (chain ∷ chains) timestamp again some all more =
    let next = after_chain rules m chain timestamp in
    let rest = after_chains rules next chains (timestamp + chain_size chain) in
    let own = chain_results rules m chain timestamp in
    let others = chains_results rules next chains (timestamp + chain_size chain) in
    let P = λ (result : R). result ≡ rules.accepted in
    let one = chain_retried rules exists r m later chain timestamp again some.0 (all_left P own others all) (later_more next rest later (later_chains rules r.grows next chains (timestamp + chain_size chain)) more) in
    let all_others = chains_retried rules exists r next later chains (timestamp + chain_size chain) (again + chain_size chain) some.1 (all_right P own others all) more in
    record { told = rw (one.told, one.left) (ap (λ xs. retried_chain rules exists chain ++ xs) all_others.told); left = rw one.left all_others.left }

-- a batch

all_stamped : {R : Type 0} (P : R → Type 0) (timestamp : ℕ) (results : List R) → All (λ told. P told.result) (with_timestamps timestamp results) → All P results
all_stamped P timestamp [] h = All-nil P
all_stamped {R} P timestamp (result ∷ results) h =
    let Q = λ (told : EventResult R). P told.result in
    let first : EventResult R = record { result = result; timestamp = timestamp } in
    All-cons P result results (All-head Q first (with_timestamps (timestamp + 1) results) h) (all_stamped P (timestamp + 1) results (All-tail Q first (with_timestamps (timestamp + 1) results) h))

results_of_stamped : {R : Type 0} (timestamp : ℕ) (results : List R) → map (λ told. told.result) (with_timestamps timestamp results) ≡ results
results_of_stamped timestamp [] = refl
results_of_stamped timestamp (result ∷ results) = ap (λ xs. result ∷ xs) (results_of_stamped (timestamp + 1) results)

-- an accepted batch was not exhausted
by_test : {E R : Type 0} (rules : Rules E R) (exhausted : Bool) (clock timestamp : ℕ) (results : List R) → AllAccepted rules (cond exhausted Exhausted (Answered clock (with_timestamps timestamp results))) → (exhausted ≡ false) × All (λ result. result ≡ rules.accepted) results
by_test rules true clock timestamp results h = absurd h
by_test {E} {R} rules false clock timestamp results h = (refl, all_stamped (λ (result : R). result ≡ rules.accepted) timestamp results h)

told_by_test : {E R : Type 0} (rules : Rules E R) (exists : R) (batch : List E) (exhausted : Bool) (clock timestamp : ℕ) (results : List R) → results ≡ flat_map (retried_chain rules exists) (chains_of rules.linked batch) → IsToldExists rules exists batch (cond exhausted Exhausted (Answered clock (with_timestamps timestamp results)))
told_by_test rules exists batch true clock timestamp results h = tt
told_by_test rules exists batch false clock timestamp results h = results_of_stamped timestamp results ∙ h

same_by_test : (exhausted : Bool) (m after : Machine) (clock : ℕ) → after ≡ at_clock m clock → cond exhausted m after ≡ at_clock m (cond exhausted m after).clock
same_by_test true m after clock h = refl
same_by_test false m after clock h = h ∙ ap (λ (n : Machine). at_clock m n.clock) (sym h)

record IsRunAccepted {E R : Type 0} (rules : Rules E R) (m after : Machine) (batch : List E) (moment : ℕ) : Type 0 where
  all : All (λ result. result ≡ rules.accepted) (chains_results rules (at_clock m (clock_after m (length batch) moment)) (chains_of rules.linked batch) (first_timestamp (clock_after m (length batch) moment) (length batch)))
  is : after ≡ after_chains rules (at_clock m (clock_after m (length batch) moment)) (chains_of rules.linked batch) (first_timestamp (clock_after m (length batch) moment) (length batch))

run_accepted : {E R : Type 0} (rules : Rules E R) (m : Machine) (batch : List E) (moment : ℕ) → AllAccepted rules (step_outcome rules m batch moment) → IsRunAccepted rules m (step_machine rules m batch moment) batch moment
unfolding step_outcome step_machine
run_accepted rules m batch moment h =
    let clock = clock_after m (length batch) moment in
    let first = first_timestamp clock (length batch) in
    let parts = by_test rules (nat_lt max_clock clock) clock first (chains_results rules (at_clock m clock) (chains_of rules.linked batch) first) h in
    record { all = parts.1; is = rw parts.0 refl }

pub batch_retried : {E R : Type 0} (rules : Rules E R) (exists : R) → IsRetriable rules exists → RetryAddsNothing rules exists
unfolding step_outcome step_machine
batch_retried rules exists r m later batch moment again all more =
    let run = run_accepted rules m batch moment all in
    let clock = clock_after m (length batch) moment in
    let chains = chains_of rules.linked batch in
    let now = clock_after later (length batch) again in
    let first = first_timestamp now (length batch) in
    let begun = at_clock later now in
    let begun_later = later_more (step_machine rules m batch moment) later begun more (later_clock later now (omega arith)) in
    let retried = chains_retried rules exists r (at_clock m clock) begun chains (first_timestamp clock (length batch)) first (chains_nonempty rules.linked batch) run.all (subst (λ (n : Machine). IsLater n begun) run.is begun_later) in
    record {
      same = same_by_test (nat_lt max_clock now) later (after_chains rules begun chains first) now retried.left;
      told = told_by_test rules exists batch (nat_lt max_clock now) now first (chains_results rules begun chains first) retried.told;
    }
