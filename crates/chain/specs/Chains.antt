-- A chain of linked events, as it is cut from its batch, tried, and its results are told.
use Rattle.std.specs.Prelude.{Bool, true, false, List, [], ◌∷◌, ◌++◌, length, Option, Some, None, ℕ}
use Rattle.records.specs.declared.reply.Refusal.{Refusal}
use Rattle.records.specs.Machine.{Machine}
use Rattle.records.specs.Chains.{Rules, Chain, Trial, trial_of, closed_results, fallen_results}
use Rattle.records.specs.Chains.Chain.{Closed, Open}
use Rattle.chain.specs.declared.chains.CutChain.{CutChain}

-- the chain of these judged events, open or closed
abbrev pub chain_from : {E : Type 0} → Bool → List E → Chain E
chain_from true events = Open events
chain_from false events = Closed events

-- the chain that the code holds
abbrev pub chain_of : {E : Type 0} → CutChain E → Chain E
chain_of chain = chain_from chain.is_open chain.judged.now

-- the results of a chain whose first refusal is this one
abbrev pub results_from : {E R : Type 0} → Rules E R → Chain E → Option (Refusal R) → List R
results_from rules (Closed events) refusal = closed_results rules (length events) refusal
results_from rules (Open events) refusal =
    fallen_results rules (length events) refusal ++ rules.chain_open ∷ []

-- the machine that a trial leaves: its own, if no event failed
abbrev pub left_by : {R : Type 0} → Machine → Trial R → Option (Refusal R) → Machine
left_by m trial None = trial.machine
left_by m trial (Some refusal) = m

-- the machine after a chain is tried, before its failed id is recorded
abbrev pub after_try : {E R : Type 0} → Rules E R → Machine → Chain E → ℕ → Machine
after_try rules m (Closed events) timestamp =
    let trial = trial_of rules m events timestamp in left_by m trial trial.refusal
after_try rules m (Open events) timestamp = m

-- the id that stays failed, if there is a refusal and it has one
abbrev pub id_failed_by : {R : Type 0} → Option (Refusal R) → Option ℕ
id_failed_by None = None
id_failed_by (Some refusal) = refusal.failed_id
