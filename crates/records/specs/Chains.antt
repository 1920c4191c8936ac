-- Linked events stand or fall together.
use Rattle.std.specs.Prelude.{ℕ, ◌+◌, ◌-◌, Bool, List, [], ◌∷◌, ◌++◌, length, replicate}
use Rattle.std.specs.Prelude.{Option, Some, None, if◌then◌else◌}
use Rattle.records.specs.declared.reply.Refusal.{Refusal}
use Rattle.records.specs.Machine.{Machine, with_failed}

-- what a batch of events E with results R is judged by: which events are linked, the verdict on an
-- event, the machine after an accepted one at a timestamp, the id that stays failed where an event
-- fails with a result, and the results of accepted events, of the last event of an open chain, and
-- of events that fall with their chain
pub record Rules (E R : Type 0) : Type 0 where
  pub linked : E → Bool
  pub verdict : Machine → E → Option R
  pub after : Machine → E → ℕ → Machine
  pub failed_id : E → R → Option ℕ
  pub accepted : R
  pub chain_open : R
  pub chain_failed : R

-- events that stand or fall together: closed by an event that is not linked, or left open by the
-- end of the batch; of an open chain the last event is not judged, so it is not listed
pub data Chain (E : Type 0) : Type 0 where
  Closed : List E → Chain E
  Open : List E → Chain E

-- the chains of a batch with a linked event more in front
abbrev pub with_linked : {E : Type 0} → E → List (Chain E) → List (Chain E)
with_linked ev [] = Open [] ∷ []
with_linked ev (Closed events ∷ chains) = Closed (ev ∷ events) ∷ chains
with_linked ev (Open events ∷ chains) = Open (ev ∷ events) ∷ chains

-- the batch, cut behind each event that is not linked
unfoldable pub chains_of : {E : Type 0} → (E → Bool) → List E → List (Chain E)
chains_of linked [] = []
chains_of linked (ev ∷ batch) =
    if linked ev then with_linked ev (chains_of linked batch)
    else Closed (ev ∷ []) ∷ chains_of linked batch

-- how many places of the batch a chain takes
abbrev pub chain_size : {E : Type 0} → Chain E → ℕ
chain_size (Closed events) = length events
chain_size (Open events) = length events + 1

-- events tried in turn, up to the first that fails, and the machine with those before it
pub record Trial (R : Type 0) : Type 0 where
  pub refusal : Option (Refusal R)
  pub machine : Machine

-- a refusal, one place on
abbrev pub refusal_behind : {R : Type 0} → Option (Refusal R) → Option (Refusal R)
refusal_behind None = None
refusal_behind (Some refusal) = Some (record refusal { place = refusal.place + 1 })

-- a trial of an event and those behind it, by its verdict
abbrev pub trial_by :
    {R : Type 0} → Machine → (R → Option ℕ) → Option R → Trial R → Trial R
trial_by m failed_id None rest = record rest { refusal = refusal_behind rest.refusal }
trial_by m failed_id (Some result) rest = record {
  refusal = Some (record { place = 0; result = result; failed_id = failed_id result });
  machine = m;
}

-- the trial of events, the first at this timestamp
unfoldable pub trial_of : {E R : Type 0} → Rules E R → Machine → List E → ℕ → Trial R
trial_of rules m [] timestamp = record { refusal = None; machine = m }
trial_of rules m (ev ∷ events) timestamp =
    trial_by m (rules.failed_id ev) (rules.verdict m ev)
    (trial_of rules (rules.after m ev timestamp) events (timestamp + 1))

-- the results of the n judged events of a chain that falls: the first that failed has its own
abbrev pub fallen_results : {E R : Type 0} → Rules E R → ℕ → Option (Refusal R) → List R
fallen_results rules n None = replicate n rules.chain_failed
fallen_results rules n (Some refusal) =
    replicate refusal.place rules.chain_failed
    ++ refusal.result ∷ replicate (n - refusal.place - 1) rules.chain_failed

-- the results of the n events of a closed chain
abbrev pub closed_results : {E R : Type 0} → Rules E R → ℕ → Option (Refusal R) → List R
closed_results rules n None = replicate n rules.accepted
closed_results rules n (Some refusal) = fallen_results rules n (Some refusal)

-- the results of a chain, its first event at this timestamp
unfoldable pub chain_results : {E R : Type 0} → Rules E R → Machine → Chain E → ℕ → List R
chain_results rules m (Closed events) timestamp =
    closed_results rules (length events) (trial_of rules m events timestamp).refusal
chain_results rules m (Open events) timestamp =
    fallen_results rules (length events) (trial_of rules m events timestamp).refusal
    ++ rules.chain_open ∷ []

-- the machine with one more failed id, if there is one
abbrev pub with_any_failed : Machine → Option ℕ → Machine
with_any_failed m None = m
with_any_failed m (Some id) = with_failed m id

-- the machine after a chain that falls: as before, but for the id of the first event that failed
abbrev pub after_fallen : {R : Type 0} → Machine → Option (Refusal R) → Machine
after_fallen m None = m
after_fallen m (Some refusal) = with_any_failed m refusal.failed_id

-- the machine after a closed chain: with all its events, if none failed
abbrev pub after_closed : {R : Type 0} → Machine → Trial R → Option (Refusal R) → Machine
after_closed m trial None = trial.machine
after_closed m trial (Some refusal) = after_fallen m (Some refusal)

-- the machine after a chain, its first event at this timestamp
unfoldable pub after_chain : {E R : Type 0} → Rules E R → Machine → Chain E → ℕ → Machine
after_chain rules m (Closed events) timestamp =
    let trial = trial_of rules m events timestamp in after_closed m trial trial.refusal
after_chain rules m (Open events) timestamp =
    after_fallen m (trial_of rules m events timestamp).refusal

-- the results of chains in turn, the first one's first event at this timestamp
unfoldable pub chains_results :
    {E R : Type 0} → Rules E R → Machine → List (Chain E) → ℕ → List R
chains_results rules m [] timestamp = []
chains_results rules m (chain ∷ chains) timestamp =
    chain_results rules m chain timestamp
    ++ chains_results rules (after_chain rules m chain timestamp) chains
    (timestamp + chain_size chain)

-- the machine after chains in turn
unfoldable pub after_chains : {E R : Type 0} → Rules E R → Machine → List (Chain E) → ℕ → Machine
after_chains rules m [] timestamp = m
after_chains rules m (chain ∷ chains) timestamp =
    after_chains rules (after_chain rules m chain timestamp) chains (timestamp + chain_size chain)
