-- An event that failed for good answers so when it is sent again.
use Rattle.std.proofs.Common.{◌≡◌, ◌+◌, ℕ, Bool, true, false, nat_lt, cond, List, [], ◌∷◌, ◌++◌, length, refl, sym, ap, subst}
use Rattle.std.specs.List.{AllZip, flat_map}
use Rattle.records.specs.declared.transfer.TransferEvent.{TransferEvent}
use Rattle.records.specs.declared.transfer_result.TransferResult.{TransferResult}
use Rattle.records.specs.Machine.{Machine}
use Rattle.records.specs.TransferVerdict.{fails_for_good}
use Rattle.records.specs.Chains.{Rules, Chain, chains_of, chain_size, with_linked, chain_results, after_chain, chains_results, after_chains}
use Rattle.records.specs.Chains.Chain.{Closed, Open}
use Rattle.records.specs.Step.{Answered, Exhausted, transfer_rules, at_clock, max_clock, clock_after, first_timestamp, with_timestamps, step_outcome, step_machine}
use Rattle.records.specs.Later.{IsLater}
use Rattle.engine.specs.FailedLaws.{runs_of, run_results, IsToldOfRuns, StaysFailed, OfEach, FailedStaysFailed}
use Rattle.engine.proofs.LaterSteps.{later_chains, transfers_grow}
use Rattle.engine.proofs.BarredIds.{IsRemembered, stays}
use Rattle.engine.proofs.RememberedIds.{IfFailed, zip_weaker, zip_append, closed_remembers, open_remembers}

-- what a batch is told, chain by chain

results_of_runs : {E R : Type 0} (rules : Rules E R) (m : Machine) (chains : List (Chain E)) (timestamp : ℕ) → chains_results rules m chains timestamp ≡ flat_map (run_results rules) (runs_of rules m chains timestamp)
unfolding chains_results
results_of_runs rules m [] timestamp = refl
results_of_runs rules m (chain ∷ chains) timestamp = ap (λ xs. chain_results rules m chain timestamp ++ xs) (results_of_runs rules (after_chain rules m chain timestamp) chains (timestamp + chain_size chain))

pub told_of_runs : {E R : Type 0} (rules : Rules E R) → IsToldOfRuns rules
unfolding step_outcome
told_of_runs {E} {R} rules m batch moment =
    let clock = clock_after m (length batch) moment in
    let first = first_timestamp clock (length batch) in
    ap (λ (xs : List R). cond (nat_lt max_clock clock) Exhausted (Answered clock (with_timestamps first xs))) (results_of_runs rules (at_clock m clock) (chains_of rules.linked batch) first)

-- what a chain covers of a batch: of an open one its last event too

abbrev Covers : {E : Type 0} → List (Chain E) → List E → Type 0
Covers [] batch = batch ≡ []
Covers {E} (Closed events ∷ chains) batch = (rest : List E) × (batch ≡ events ++ rest) × Covers chains rest
Covers {E} (Open events ∷ chains) batch = (last : E) × (rest : List E) × (batch ≡ (events ++ last ∷ []) ++ rest) × Covers chains rest

covers_linked : {E : Type 0} (ev : E) (chains : List (Chain E)) (batch : List E) → Covers chains batch → Covers (with_linked ev chains) (ev ∷ batch)
covers_linked ev [] batch c = (ev, [], ap (λ xs. ev ∷ xs) c, refl)
covers_linked ev (Closed events ∷ chains) batch c = (c.0, ap (λ xs. ev ∷ xs) c.1, c.2)
covers_linked ev (Open events ∷ chains) batch c = (c.0, c.1, ap (λ xs. ev ∷ xs) c.2, c.3)

covers_by : {E : Type 0} (linked : Bool) (ev : E) (chains : List (Chain E)) (batch : List E) → Covers chains batch → Covers (cond linked (with_linked ev chains) (Closed (ev ∷ []) ∷ chains)) (ev ∷ batch)
covers_by true ev chains batch c = covers_linked ev chains batch c
covers_by false ev chains batch c = (batch, refl, c)

chains_cover : {E : Type 0} (linked : E → Bool) (batch : List E) → Covers (chains_of linked batch) batch
unfolding chains_of
chains_cover linked [] = refl
chains_cover linked (ev ∷ batch) = covers_by (linked ev) ev (chains_of linked batch) batch (chains_cover linked batch)

-- chains in turn

remembers_on : (m later : Machine) (ev : TransferEvent) (result : TransferResult) → IsLater m later → IfFailed (IsRemembered m) ev result → IfFailed (IsRemembered later) ev result
remembers_on m later ev result more h good = let r = h good in record { event = r.event; failed = more.failed ev.id r.failed }

chains_remember : (m : Machine) (chains : List (Chain TransferEvent)) (timestamp : ℕ) (batch : List TransferEvent) → Covers chains batch → AllZip (IfFailed (IsRemembered (after_chains transfer_rules m chains timestamp))) batch (chains_results transfer_rules m chains timestamp)
unfolding chains_results after_chains
chains_remember m [] timestamp batch c = subst (λ xs. AllZip (IfFailed (IsRemembered m)) xs []) (sym c) tt
chains_remember m (Closed events ∷ chains) timestamp batch c =
    let next = after_chain transfer_rules m (Closed events) timestamp in
    let final = after_chains transfer_rules next chains (timestamp + length events) in
    let own = zip_weaker (IfFailed (IsRemembered next)) (IfFailed (IsRemembered final)) (λ ev result h. remembers_on next final ev result (later_chains transfer_rules transfers_grow next chains (timestamp + length events)) h) events (chain_results transfer_rules m (Closed events) timestamp) (closed_remembers m events timestamp) in
    subst (λ xs. AllZip (IfFailed (IsRemembered final)) xs (chain_results transfer_rules m (Closed events) timestamp ++ chains_results transfer_rules next chains (timestamp + length events))) (sym c.1)
    (zip_append (IfFailed (IsRemembered final)) events c.0 (chain_results transfer_rules m (Closed events) timestamp) (chains_results transfer_rules next chains (timestamp + length events)) own (chains_remember next chains (timestamp + length events) c.0 c.2))
chains_remember m (Open events ∷ chains) timestamp batch c =
    let next = after_chain transfer_rules m (Open events) timestamp in
    let on = timestamp + (length events + 1) in
    let final = after_chains transfer_rules next chains on in
    let all = events ++ c.0 ∷ [] in
    let own = zip_weaker (IfFailed (IsRemembered next)) (IfFailed (IsRemembered final)) (λ ev result h. remembers_on next final ev result (later_chains transfer_rules transfers_grow next chains on) h) all (chain_results transfer_rules m (Open events) timestamp) (open_remembers m events c.0 timestamp) in
    subst (λ xs. AllZip (IfFailed (IsRemembered final)) xs (chain_results transfer_rules m (Open events) timestamp ++ chains_results transfer_rules next chains on)) (sym c.2)
    (zip_append (IfFailed (IsRemembered final)) all c.1 (chain_results transfer_rules m (Open events) timestamp) (chains_results transfer_rules next chains on) own (chains_remember next chains on c.1 c.3))

-- a batch

zip_stamped : {E R : Type 0} (P : E → R → Type 0) (batch : List E) (results : List R) (timestamp : ℕ) → AllZip P batch results → AllZip (λ ev told. P ev told.result) batch (with_timestamps timestamp results)
zip_stamped P [] [] timestamp h = tt
zip_stamped P [] (result ∷ results) timestamp h = h
zip_stamped P (ev ∷ batch) [] timestamp h = h
zip_stamped P (ev ∷ batch) (result ∷ results) timestamp h = (h.0, zip_stamped P batch results (timestamp + 1) h.1)

of_each : {E R : Type 0} (P : Machine → E → R → Type 0) (exhausted : Bool) (m after : Machine) (batch : List E) (clock timestamp : ℕ) (results : List R) → AllZip (P after) batch results → OfEach (P (cond exhausted m after)) batch (cond exhausted Exhausted (Answered clock (with_timestamps timestamp results)))
of_each P true m after batch clock timestamp results h = tt
of_each P false m after batch clock timestamp results h = zip_stamped (P after) batch results timestamp h

pub stays_failed : FailedStaysFailed
unfolding step_outcome step_machine
stays_failed m batch moment =
    let clock = clock_after m (length batch) moment in
    let first = first_timestamp clock (length batch) in
    let begun = at_clock m clock in
    let chains = chains_of transfer_rules.linked batch in
    let after = after_chains transfer_rules begun chains first in
    let results = chains_results transfer_rules begun chains first in
    of_each (λ (n : Machine) (ev : TransferEvent) (result : TransferResult). fails_for_good result ≡ true → StaysFailed n ev) (nat_lt max_clock clock) m after batch clock first results
    (zip_weaker (IfFailed (IsRemembered after)) (IfFailed (StaysFailed after)) (λ ev result h good. stays after ev (h good)) batch results (chains_remember begun chains first batch (chains_cover transfer_rules.linked batch)))
