-- Every step of a valid machine leads to a valid one.
use Rattle.std.proofs.Common.{◌≡◌, ◌<◌, ◌≤◌, ◌+◌, ◌-◌, ℕ, Bool, true, false, nat_lt, max, cond, List, [], ◌∷◌, length, Option, Some, None, refl, arith, subst}
use Rattle.std.specs.List.{All}
use Rattle.std.proofs.lemmas.Bool.{ltb-false}
use Rattle.std.proofs.lemmas.List.Elements.{All-nil, All-cons, All-head, All-tail, All-push, All-weaker}
use Rattle.records.specs.declared.account.Account.{Account}
use Rattle.records.specs.declared.account.AccountEvent.{AccountEvent}
use Rattle.records.specs.declared.transfer.TransferEvent.{TransferEvent}
use Rattle.records.specs.declared.transfer.Transfer.{Transfer}
use Rattle.records.specs.Machine.{Machine, account_with, transfer_with, with_failed}
use Rattle.records.specs.Facts.{facts_of}
use Rattle.records.specs.StoredRecord.{stored_account, stored_transfer}
use Rattle.records.specs.Chains.{Rules, Chain, Trial, chains_of, chain_size, with_linked, trial_of, trial_by, refusal_behind, with_any_failed, after_fallen, after_closed, after_chain, after_chains}
use Rattle.records.specs.Chains.Chain.{Closed, Open}
use Rattle.records.specs.Widths.{IsAccountEventInWidth, IsTransferEventInWidth}
use Rattle.records.specs.Step.{account_rules, transfer_rules, account_verdict_in, transfer_verdict_in, after_account, after_transfer, at_clock, max_clock, clock_after, first_timestamp, step_machine}
use Rattle.records.specs.Valid.{IsValid, IsNextTimestamp, IsNextAccount, IsNextTransfer, IsNextFailed, with_account, with_transfer}
use Rattle.records.specs.declared.reply.Refusal.{Refusal}
use Rattle.records.specs.Later.{IsLater}
use Rattle.engine.specs.StepLaws.{StaysValid}
use Rattle.engine.proofs.AcceptedIsNext.{next_by_verdict}
use Rattle.engine.proofs.EntriesOfValid.{given}
use Rattle.engine.proofs.NextAccountLemmas.{next_account}
use Rattle.engine.proofs.Sound.{sound}
use Rattle.engine.proofs.LaterSteps.{Grows, accounts_grow, transfers_grow}
use Rattle.engine.proofs.RefusalLemmas.{transfer_fails}
use Rattle.engine.proofs.ExtendedLists.{none_before}
use Rattle.engine.proofs.StoredWidths.{account_in_width, transfer_in_width}

-- a valid machine in a batch of this clock, before the event of this timestamp
pub record InStep (m : Machine) (clock timestamp : ℕ) : Type 0 where
  pub valid : IsValid m
  pub at : m.clock ≡ clock
  pub bounded : clock ≤ max_clock
  pub positive : 0 < timestamp
  pub after_accounts : All (λ a. a.timestamp < timestamp) m.accounts
  pub after_transfers : All (λ t. t.timestamp < timestamp) m.transfers
  pub in_batch : clock < timestamp + 1000

weaker : (m : Machine) (clock timestamp later : ℕ) → InStep m clock timestamp → timestamp ≤ later → InStep m clock later
weaker m clock timestamp later s le = record {
  valid = s.valid;
  at = s.at;
  bounded = s.bounded;
  positive = omega (arith, s.positive);
  after_accounts = All-weaker (λ a. a.timestamp < timestamp) (λ a. a.timestamp < later) (λ a h. omega arith) m.accounts s.after_accounts;
  after_transfers = All-weaker (λ t. t.timestamp < timestamp) (λ t. t.timestamp < later) (λ t h. omega arith) m.transfers s.after_transfers;
  in_batch = omega (arith, s.in_batch);
}

next_timestamp : (m : Machine) (clock timestamp : ℕ) → InStep m clock timestamp → timestamp ≤ clock → IsNextTimestamp m timestamp
next_timestamp m clock timestamp s le = record { positive = s.positive; after_accounts = s.after_accounts; after_transfers = s.after_transfers; in_batch = omega (arith, s.at, s.in_batch); by_clock = omega (arith, s.at) }

-- with one entry more
with_one_account : (m : Machine) (clock timestamp : ℕ) (a : Account) → InStep m clock timestamp → a.timestamp ≡ timestamp → IsNextAccount m a → InStep (with_account m a) clock (timestamp + 1)
with_one_account m clock timestamp a s same next =
    let later = weaker m clock timestamp (timestamp + 1) s (omega arith) in
    record { valid = IsValid.next_account m a s.valid next; at = s.at; bounded = s.bounded; positive = later.positive; after_accounts = All-push (λ x. x.timestamp < timestamp + 1) m.accounts a later.after_accounts (omega arith); after_transfers = later.after_transfers; in_batch = later.in_batch }

with_one_transfer : (m : Machine) (clock timestamp : ℕ) (t : Transfer) → InStep m clock timestamp → t.timestamp ≡ timestamp → IsNextTransfer m t → InStep (with_transfer m t) clock (timestamp + 1)
with_one_transfer m clock timestamp t s same next =
    let later = weaker m clock timestamp (timestamp + 1) s (omega arith) in
    record { valid = IsValid.next_transfer m t s.valid next; at = s.at; bounded = s.bounded; positive = later.positive; after_accounts = later.after_accounts; after_transfers = All-push (λ x. x.timestamp < timestamp + 1) m.transfers t later.after_transfers (omega arith); in_batch = later.in_batch }

-- rules whose accepted events leave next entries, and whose failed ids are ids that can fail
pub record Keeps {E R : Type 0} (rules : Rules E R) (IsInWidth : E → Type 0) : Type 0 where
  pub grows : Grows rules
  pub accepts : (m : Machine) (ev : E) (clock timestamp : ℕ) → InStep m clock timestamp → timestamp ≤ clock → IsInWidth ev → rules.verdict m ev ≡ None → InStep (rules.after m ev timestamp) clock (timestamp + 1)
  pub fails : (m : Machine) (ev : E) (result : R) (id : ℕ) → IsInWidth ev → rules.verdict m ev ≡ Some result → rules.failed_id ev result ≡ Some id → IsNextFailed m id

account_keeps : (m : Machine) (ev : AccountEvent) (clock timestamp : ℕ) → InStep m clock timestamp → timestamp ≤ clock → IsAccountEventInWidth ev → account_verdict_in m ev ≡ None → InStep (after_account m ev timestamp) clock (timestamp + 1)
unfolding account_verdict_in after_account
account_keeps m ev clock timestamp s le width h =
    let account = stored_account ev timestamp in
    with_one_account m clock timestamp account s refl (next_account m (account_with ev.id m.accounts) ev timestamp account refl (account_in_width ev timestamp width (omega (arith, s.bounded))) h refl (next_timestamp m clock timestamp s le))

transfer_keeps : (m : Machine) (ev : TransferEvent) (clock timestamp : ℕ) → InStep m clock timestamp → timestamp ≤ clock → IsTransferEventInWidth ev → transfer_verdict_in m ev ≡ None → InStep (after_transfer m ev timestamp) clock (timestamp + 1)
unfolding transfer_verdict_in after_transfer
transfer_keeps m ev clock timestamp s le width h =
    let widths = transfer_in_width m ev timestamp m.clock (given m s.valid).widths width (omega (arith, s.bounded)) (omega (arith, s.at, s.bounded)) in
    with_one_transfer m clock timestamp (stored_transfer (facts_of m ev) ev timestamp m.clock) s refl (next_by_verdict m ev timestamp (sound m s.valid) h (next_timestamp m clock timestamp s le) widths)

-- an id that can fail

none_fails : (m : Machine) (id : ℕ) → None ≡ Some id → IsNextFailed m id
none_fails m id h = absurd (cc)

pub accounts_keep : Keeps account_rules IsAccountEventInWidth
accounts_keep = record { grows = accounts_grow; accepts = account_keeps; fails = λ m ev result id width h is. none_fails m id is }

pub transfers_keep : Keeps transfer_rules IsTransferEventInWidth
transfers_keep = record { grows = transfers_grow; accepts = transfer_keeps; fails = transfer_fails }

-- events tried in turn

trial_first : {R : Type 0} (m : Machine) (clock timestamp later : ℕ) (failed_id : R → Option ℕ) (verdict : Option R) (rest : Trial R) → InStep m clock timestamp → timestamp ≤ later → (verdict ≡ None → InStep rest.machine clock later) → InStep (trial_by m failed_id verdict rest).machine clock later
trial_first m clock timestamp later failed_id None rest s le h = h refl
trial_first m clock timestamp later failed_id (Some result) rest s le h = weaker m clock timestamp later s le

trial_stays : {E R : Type 0} (rules : Rules E R) (IsInWidth : E → Type 0) → Keeps rules IsInWidth → (m : Machine) (events : List E) (clock timestamp : ℕ) → InStep m clock timestamp → timestamp + length events ≤ clock + 1 → All IsInWidth events → InStep (trial_of rules m events timestamp).machine clock (timestamp + length events)
unfolding trial_of
trial_stays rules IsInWidth keeps m [] clock timestamp s le widths = weaker m clock timestamp (timestamp + 0) s (omega arith)
trial_stays rules IsInWidth keeps m (ev ∷ events) clock timestamp s le widths =
    let next = rules.after m ev timestamp in
    trial_first m clock timestamp (timestamp + length (ev ∷ events)) (rules.failed_id ev) (rules.verdict m ev) (trial_of rules next events (timestamp + 1)) s (omega arith) (λ h.
    let one = keeps.accepts m ev clock timestamp s (omega arith) (All-head IsInWidth ev events widths) h in
    weaker (trial_of rules next events (timestamp + 1)).machine clock (timestamp + 1 + length events) (timestamp + length (ev ∷ events)) (trial_stays rules IsInWidth keeps next events clock (timestamp + 1) one (omega arith) (All-tail IsInWidth ev events widths)) (omega arith))

-- the id that a refusal tells, if one, can fail in a machine
abbrev IsFailing : {R : Type 0} → Machine → Option (Refusal R) → Type 0
IsFailing m None = Unit {0}
IsFailing m (Some refusal) = (id : ℕ) → refusal.failed_id ≡ Some id → IsNextFailed m id

not_before : (m later : Machine) (id : ℕ) → IsLater m later → IsNextFailed later id → IsNextFailed m id
not_before m later id more next = record {
  positive = next.positive;
  below_max = next.below_max;
  unknown = none_before (λ (t : Transfer). t.id) id m.transfers more.transfers.0 (subst (λ xs. transfer_with id xs ≡ None) more.transfers.1 next.unknown);
}

failing_before : {R : Type 0} (m later : Machine) (refusal : Option (Refusal R)) → IsLater m later → IsFailing later refusal → IsFailing m (refusal_behind refusal)
failing_before m later None more h = tt
failing_before m later (Some refusal) more h = λ id is. not_before m later id more (h id is)

failing_first : {R : Type 0} (m later : Machine) (failed_id : R → Option ℕ) (verdict : Option R) (rest : Trial R) → IsLater m later → ((result : R) (id : ℕ) → verdict ≡ Some result → failed_id result ≡ Some id → IsNextFailed m id) → (verdict ≡ None → IsFailing later rest.refusal) → IsFailing m (trial_by m failed_id verdict rest).refusal
failing_first m later failed_id None rest more own h = failing_before m later rest.refusal more (h refl)
failing_first m later failed_id (Some result) rest more own h = λ id is. own result id refl is

trial_fails : {E R : Type 0} (rules : Rules E R) (IsInWidth : E → Type 0) → Keeps rules IsInWidth → (m : Machine) (events : List E) (timestamp : ℕ) → All IsInWidth events → IsFailing m (trial_of rules m events timestamp).refusal
unfolding trial_of
trial_fails rules IsInWidth keeps m [] timestamp widths = tt
trial_fails {E} {R} rules IsInWidth keeps m (ev ∷ events) timestamp widths =
    let next = rules.after m ev timestamp in
    failing_first m next (rules.failed_id ev) (rules.verdict m ev) (trial_of rules next events (timestamp + 1)) (keeps.grows m ev timestamp) (λ (result : R) (id : ℕ). keeps.fails m ev result id (All-head IsInWidth ev events widths)) (λ h. trial_fails rules IsInWidth keeps next events (timestamp + 1) (All-tail IsInWidth ev events widths))

with_one_failed : (m : Machine) (clock timestamp : ℕ) (id : ℕ) → InStep m clock timestamp → IsNextFailed m id → InStep (with_failed m id) clock timestamp
with_one_failed m clock timestamp id s next = record { valid = IsValid.next_failed m id s.valid next; at = s.at; bounded = s.bounded; positive = s.positive; after_accounts = s.after_accounts; after_transfers = s.after_transfers; in_batch = s.in_batch }

with_any : (m : Machine) (clock timestamp : ℕ) (id : Option ℕ) → InStep m clock timestamp → ((own : ℕ) → id ≡ Some own → IsNextFailed m own) → InStep (with_any_failed m id) clock timestamp
with_any m clock timestamp None s h = s
with_any m clock timestamp (Some id) s h = with_one_failed m clock timestamp id s (h id refl)

fallen_stays : {R : Type 0} (m : Machine) (clock timestamp : ℕ) (refusal : Option (Refusal R)) → InStep m clock timestamp → IsFailing m refusal → InStep (after_fallen m refusal) clock timestamp
fallen_stays m clock timestamp None s h = s
fallen_stays m clock timestamp (Some refusal) s h = with_any m clock timestamp refusal.failed_id s h

-- the events of a chain that are judged, and of all chains
abbrev events_of : {E : Type 0} → Chain E → List E
events_of (Closed events) = events
events_of (Open events) = events

abbrev AllChains : {E : Type 0} → (E → Type 0) → List (Chain E) → Type 0
AllChains P [] = Unit {0}
AllChains P (chain ∷ chains) = All P (events_of chain) × AllChains P chains

abbrev sizes : {E : Type 0} → List (Chain E) → ℕ
sizes [] = 0
sizes (chain ∷ chains) = chain_size chain + sizes chains

either : {A : Type 0} (b : Bool) (P : A → Type 0) {x y : A} → P x → P y → P (cond b x y)
either true P h k = h
either false P h k = k

all_tied : {E : Type 0} (P : E → Type 0) (ev : E) (chains : List (Chain E)) → P ev → AllChains P chains → AllChains P (with_linked ev chains)
all_tied P ev [] h all = (All-nil P, tt)
all_tied P ev (Closed events ∷ chains) h all = (All-cons P ev events h all.0, all.1)
all_tied P ev (Open events ∷ chains) h all = (All-cons P ev events h all.0, all.1)

all_chains : {E : Type 0} (P : E → Type 0) (linked : E → Bool) (batch : List E) → All P batch → AllChains P (chains_of linked batch)
unfolding chains_of
all_chains P linked [] all = tt
all_chains P linked (ev ∷ batch) all = either (linked ev) (AllChains P) (all_tied P ev (chains_of linked batch) (All-head P ev batch all) (all_chains P linked batch (All-tail P ev batch all))) (All-cons P ev [] (All-head P ev batch all) (All-nil P), all_chains P linked batch (All-tail P ev batch all))

size_tied : {E : Type 0} (ev : E) (chains : List (Chain E)) → sizes (with_linked ev chains) ≡ sizes chains + 1
size_tied ev [] = refl
size_tied ev (Closed events ∷ chains) = omega arith
size_tied ev (Open events ∷ chains) = omega arith

size_all : {E : Type 0} (linked : E → Bool) (batch : List E) → sizes (chains_of linked batch) ≡ length batch
unfolding chains_of
size_all linked [] = refl
size_all linked (ev ∷ batch) = either (linked ev) (λ x. sizes x ≡ length (ev ∷ batch)) {x = with_linked ev (chains_of linked batch)} {y = Closed (ev ∷ []) ∷ chains_of linked batch} (omega (arith, size_tied ev (chains_of linked batch), size_all linked batch)) (omega (arith, size_all linked batch))

-- a chain, and chains in turn

closed_stays : {R : Type 0} (m : Machine) (trial : Trial R) (refusal : Option (Refusal R)) (clock timestamp later : ℕ) → InStep m clock timestamp → timestamp ≤ later → InStep trial.machine clock later → IsFailing m refusal → InStep (after_closed m trial refusal) clock later
closed_stays m trial None clock timestamp later s le h fails = h
closed_stays m trial (Some refusal) clock timestamp later s le h fails = fallen_stays m clock later (Some refusal) (weaker m clock timestamp later s le) fails

chain_stays : {E R : Type 0} (rules : Rules E R) (IsInWidth : E → Type 0) → Keeps rules IsInWidth → (m : Machine) (chain : Chain E) (clock timestamp : ℕ) → InStep m clock timestamp → timestamp + chain_size chain ≤ clock + 1 → All IsInWidth (events_of chain) → InStep (after_chain rules m chain timestamp) clock (timestamp + chain_size chain)
unfolding after_chain
chain_stays rules IsInWidth keeps m (Closed events) clock timestamp s le widths =
    let trial = trial_of rules m events timestamp in
    closed_stays m trial trial.refusal clock timestamp (timestamp + length events) s (omega arith) (trial_stays rules IsInWidth keeps m events clock timestamp s le widths) (trial_fails rules IsInWidth keeps m events timestamp widths)
chain_stays rules IsInWidth keeps m (Open events) clock timestamp s le widths = fallen_stays m clock (timestamp + (length events + 1)) (trial_of rules m events timestamp).refusal (weaker m clock timestamp (timestamp + (length events + 1)) s (omega arith)) (trial_fails rules IsInWidth keeps m events timestamp widths)

chains_stay : {E R : Type 0} (rules : Rules E R) (IsInWidth : E → Type 0) → Keeps rules IsInWidth → (m : Machine) (chains : List (Chain E)) (clock timestamp : ℕ) → InStep m clock timestamp → timestamp + sizes chains ≤ clock + 1 → AllChains IsInWidth chains → IsValid (after_chains rules m chains timestamp)
unfolding after_chains
chains_stay rules IsInWidth keeps m [] clock timestamp s le widths = s.valid
chains_stay rules IsInWidth keeps m (chain ∷ chains) clock timestamp s le widths =
    let next = after_chain rules m chain timestamp in
    chains_stay rules IsInWidth keeps next chains clock (timestamp + chain_size chain) (chain_stays rules IsInWidth keeps m chain clock timestamp s (omega arith) widths.0) (omega arith) widths.1

-- a batch

begin : (m : Machine) (clock n moment : ℕ) → IsValid m → n ≤ 1000 → clock ≡ max moment m.clock + n → clock ≤ max_clock → InStep (at_clock m clock) clock (clock - n + 1)
begin m clock n moment valid short is bounded =
    let past = (given m valid).clock in
    record {
      valid = IsValid.later m clock valid (omega arith) bounded;
      at = refl;
      bounded = bounded;
      positive = omega arith;
      after_accounts = All-weaker (λ a. a.timestamp ≤ m.clock) (λ a. a.timestamp < clock - n + 1) (λ a h. omega arith) m.accounts past.accounts;
      after_transfers = All-weaker (λ t. t.timestamp ≤ m.clock) (λ t. t.timestamp < clock - n + 1) (λ t h. omega arith) m.transfers past.transfers;
      in_batch = omega arith;
    }

by_test : (test : Bool) (m n : Machine) → IsValid m → (test ≡ false → IsValid n) → IsValid (cond test m n)
by_test true m n valid h = valid
by_test false m n valid h = h refl

valid_if : (m n : Machine) (clock : ℕ) → IsValid m → (clock ≤ max_clock → IsValid n) → IsValid (cond (nat_lt max_clock clock) m n)
valid_if m n clock valid h = by_test (nat_lt max_clock clock) m n valid (λ test. h (ltb-false max_clock clock test))

pub step_stays : {E R : Type 0} (rules : Rules E R) (IsInWidth : E → Type 0) → Keeps rules IsInWidth → StaysValid rules IsInWidth
unfolding step_machine
step_stays rules IsInWidth keeps m batch moment valid short widths =
    let clock = clock_after m (length batch) moment in
    let first = first_timestamp clock (length batch) in
    let chains = chains_of rules.linked batch in
    valid_if m (after_chains rules (at_clock m clock) chains first) clock valid (λ bounded. chains_stay rules IsInWidth keeps (at_clock m clock) chains clock first (begin m clock (length batch) moment valid short refl bounded) (omega (arith, size_all rules.linked batch)) (all_chains IsInWidth rules.linked batch widths))
