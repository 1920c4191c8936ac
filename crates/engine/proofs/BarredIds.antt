-- An id that has failed stays so, and an event with it is told so.
use Rattle.std.proofs.Common.{◌≡◌, ◌+◌, ℕ, Bool, true, false, ◌||◌, eqb, List, [], ◌∷◌, length, Option, Some, None, refl, sym, ap, ◌∙◌, subst}
use Rattle.std.specs.List.{All}
use Rattle.std.specs.Option.{option_map}
use Rattle.std.proofs.lemmas.Bool.{both_ways, eqb-true}
use Rattle.std.proofs.lemmas.List.Elements.{All-nil, All-cons, All-head, All-tail, All-weaker}
use Rattle.records.specs.declared.reply.Refusal.{Refusal}
use Rattle.records.specs.declared.transfer.Transfer.{Transfer}
use Rattle.records.specs.declared.transfer.TransferEvent.{TransferEvent}
use Rattle.records.specs.declared.transfer_result.TransferResult.{TransferResult}
use Rattle.records.specs.declared.transfer_result.TransferResult.TheVariants as answer
use Rattle.records.specs.declared.facts.TransferFacts.{TransferFacts}
use Rattle.records.specs.Machine.{Machine, has_id, transfer_with}
use Rattle.records.specs.Facts.{facts_of, with_pending_amount}
use Rattle.records.specs.StoredRecord.{stored_transfer}
use Rattle.records.specs.TransferVerdict.{transfer_verdict, transfer_event_results}
use Rattle.records.specs.Chains.{Chain, Trial, chains_of, chain_size, trial_of, trial_by, with_any_failed, after_fallen, after_closed, chain_results, after_chain}
use Rattle.records.specs.Chains.Chain.{Closed, Open}
use Rattle.records.specs.Step.{transfer_rules, transfer_verdict_in, after_transfer, failed_transfer_id, at_clock, clock_after, first_timestamp}
use Rattle.engine.specs.Promises.{IsFailedId}
use Rattle.engine.specs.FailedLaws.{ChainRun, runs_of, batch_runs, AnswersFailed, AnswersIfFirst, StaysFailed}
use Rattle.engine.proofs.FirstOfLemmas.{AllFail, none_from_all_fail}
use Rattle.engine.proofs.FindByIdLemmas.{find_push_absent}
use Rattle.engine.proofs.FactsLemmas.{existing_of, failed_of}
use Rattle.engine.proofs.AcceptedEventLemmas.{accepted_new_id}
use Rattle.engine.proofs.Sound.{sound}
use Rattle.engine.proofs.LaterSteps.{has_with}
use Rattle.engine.proofs.RetriedBatches.{falls_at_first}

-- an id that has failed, and that no transfer has
record IsBarred (m : Machine) (id : ℕ) : Type 0 where
  failed : has_id id m.failed ≡ true
  unknown : transfer_with id m.transfers ≡ None

by_test : (test : Bool) (ids : List ℕ) (id own : ℕ) → eqb own id ≡ test → has_id id ids ≡ true → has_id own ids ≡ false → test ≡ false
by_test false ids id own is h none = refl
by_test true ids id own is h none = absurd (both_ways (has_id own ids) none (subst (λ n. has_id n ids ≡ true) (sym (eqb-true own id is)) h))

-- no accepted transfer has it
other_id : (ids : List ℕ) (id own : ℕ) → has_id id ids ≡ true → has_id own ids ≡ false → eqb own id ≡ false
other_id ids id own h none = by_test (eqb own id) ids id own refl h none

barred_transfer : (m : Machine) (ev : TransferEvent) (timestamp id : ℕ) → IsBarred m id → transfer_verdict_in m ev ≡ None → IsBarred (after_transfer m ev timestamp) id
unfolding transfer_verdict_in after_transfer
barred_transfer m ev timestamp id b h =
    let e = stored_transfer (facts_of m ev) ev timestamp m.clock in
    let not_failed = sym (failed_of m ev) ∙ (accepted_new_id (facts_of m ev) ev h).first.0 in
    record { failed = b.failed; unknown = find_push_absent (λ (t : Transfer). t.id) id m.transfers e b.unknown (other_id m.failed id ev.id b.failed not_failed) }

barred_first : (m n : Machine) (failed_id : TransferResult → Option ℕ) (verdict : Option TransferResult) (rest : Trial TransferResult) (id : ℕ) → IsBarred m id → (verdict ≡ None → IsBarred rest.machine id) → IsBarred (trial_by m failed_id verdict rest).machine id
barred_first m n failed_id None rest id b h = h refl
barred_first m n failed_id (Some result) rest id b h = b

barred_trial : (m : Machine) (events : List TransferEvent) (timestamp id : ℕ) → IsBarred m id → IsBarred (trial_of transfer_rules m events timestamp).machine id
unfolding trial_of
barred_trial m [] timestamp id b = b
barred_trial m (ev ∷ events) timestamp id b =
    let next = after_transfer m ev timestamp in
    barred_first m next (failed_transfer_id ev) (transfer_verdict_in m ev) (trial_of transfer_rules next events (timestamp + 1)) id b (λ h. barred_trial next events (timestamp + 1) id (barred_transfer m ev timestamp id b h))

barred_any : (m : Machine) (other : Option ℕ) (id : ℕ) → IsBarred m id → IsBarred (with_any_failed m other) id
barred_any m None id b = b
barred_any m (Some other) id b = record { failed = has_with id other m.failed b.failed; unknown = b.unknown }

barred_fallen : (m : Machine) (refusal : Option (Refusal TransferResult)) (id : ℕ) → IsBarred m id → IsBarred (after_fallen m refusal) id
barred_fallen m None id b = b
barred_fallen m (Some refusal) id b = barred_any m refusal.failed_id id b

barred_closed : (m : Machine) (trial : Trial TransferResult) (refusal : Option (Refusal TransferResult)) (id : ℕ) → IsBarred m id → IsBarred trial.machine id → IsBarred (after_closed m trial refusal) id
barred_closed m trial None id b h = h
barred_closed m trial (Some refusal) id b h = barred_fallen m (Some refusal) id b

barred_chain : (m : Machine) (chain : Chain TransferEvent) (timestamp id : ℕ) → IsBarred m id → IsBarred (after_chain transfer_rules m chain timestamp) id
unfolding after_chain
barred_chain m (Closed events) timestamp id b = let trial = trial_of transfer_rules m events timestamp in barred_closed m trial trial.refusal id b (barred_trial m events timestamp id b)
barred_chain m (Open events) timestamp id b = barred_fallen m (trial_of transfer_rules m events timestamp).refusal id b

barred_runs : (m : Machine) (chains : List (Chain TransferEvent)) (timestamp id : ℕ) → IsBarred m id → All (λ run. IsBarred run.machine id) (runs_of transfer_rules m chains timestamp)
barred_runs m [] timestamp id b = All-nil (λ run. IsBarred run.machine id)
barred_runs m (chain ∷ chains) timestamp id b =
    let next = after_chain transfer_rules m chain timestamp in
    All-cons (λ run. IsBarred run.machine id) (record { machine = m; chain = chain; timestamp = timestamp }) (runs_of transfer_rules next chains (timestamp + chain_size chain)) b (barred_runs next chains (timestamp + chain_size chain) id (barred_chain m chain timestamp id b))

-- an event with such an id is told so

failed_by : (f : TransferFacts) (ev : TransferEvent) → AllFail (transfer_event_results ev) → f.existing ≡ None → f.failed ≡ true → transfer_verdict f ev ≡ Some answer.IdAlreadyFailed
unfolding transfer_verdict
failed_by f ev own unknown failed = rw (none_from_all_fail (transfer_event_results ev) own, unknown, failed) refl

told_failed : (m : Machine) (ev : TransferEvent) → AllFail (transfer_event_results ev) → IsBarred m ev.id → transfer_verdict_in m ev ≡ Some answer.IdAlreadyFailed
unfolding transfer_verdict_in
told_failed m ev own b = failed_by (facts_of m ev) ev own (existing_of m ev ∙ ap (option_map (with_pending_amount m)) b.unknown) (failed_of m ev ∙ b.failed)

answers_failed : (ev : TransferEvent) (events : List TransferEvent) (run : ChainRun TransferEvent) → AllFail (transfer_event_results ev) → IsBarred run.machine ev.id → run.chain ≡ Closed (ev ∷ events) → AnswersFailed ev events run
answers_failed ev events run own b is =
    let falls = falls_at_first transfer_rules answer.IdAlreadyFailed run.machine ev events run.timestamp (told_failed run.machine ev own b) refl in
    record {
      told = ap (λ (chain : Chain TransferEvent). chain_results transfer_rules run.machine chain run.timestamp) is ∙ falls.told;
      left = ap (λ (chain : Chain TransferEvent). after_chain transfer_rules run.machine chain run.timestamp) is ∙ falls.left;
    }

-- an event whose id a machine remembers as failed
pub record IsRemembered (m : Machine) (ev : TransferEvent) : Type 0 where
  pub event : AllFail (transfer_event_results ev)
  pub failed : has_id ev.id m.failed ≡ true

unknown_by : (test : Bool) (x : ℕ) (ids : List ℕ) (entries : List Transfer) (id : ℕ) → eqb x id ≡ test → transfer_with x entries ≡ None → (has_id id ids ≡ true → transfer_with id entries ≡ None) → (test || has_id id ids) ≡ true → transfer_with id entries ≡ None
unknown_by true x ids entries id is own rest h = subst (λ n. transfer_with n entries ≡ None) (eqb-true x id is) own
unknown_by false x ids entries id is own rest h = rest h

unknown_in : (ids : List ℕ) (entries : List Transfer) (id : ℕ) → All (λ x. transfer_with x entries ≡ None) ids → has_id id ids ≡ true → transfer_with id entries ≡ None
unknown_in [] entries id all h = absurd (cc)
unknown_in (x ∷ ids) entries id all h = unknown_by (eqb x id) x ids entries id refl (All-head (λ y. transfer_with y entries ≡ None) x ids all) (unknown_in ids entries id (All-tail (λ y. transfer_with y entries ≡ None) x ids all)) h

pub stays : (m : Machine) (ev : TransferEvent) → IsRemembered m ev → StaysFailed m ev
stays m ev r later batch moment valid more =
    let s = sound later valid in
    let failed = more.failed ev.id r.failed in
    let clock = clock_after later (length batch) moment in
    let barred : IsBarred (at_clock later clock) ev.id = record { failed = failed; unknown = unknown_in later.failed later.transfers ev.id (All-weaker (IsFailedId later.transfers) (λ x. transfer_with x later.transfers ≡ None) (λ x h. h.unknown) later.failed s.failed) failed } in
    All-weaker (λ run. IsBarred run.machine ev.id) (AnswersIfFirst ev) (λ run b events is. answers_failed ev events run r.event b is) (batch_runs transfer_rules later batch moment) (barred_runs (at_clock later clock) (chains_of transfer_rules.linked batch) (first_timestamp clock (length batch)) ev.id barred)
