-- What each accepted event and each failed id leads to, a batch leads to.
use Rattle.std.proofs.Common.{◌≤◌, ◌+◌, ℕ, Bool, true, false, nat_lt, cond, List, [], ◌∷◌, length, Option, Some, None, arith}
use Rattle.records.specs.Machine.{Machine, with_failed}
use Rattle.records.specs.Chains.{Rules, Chain, Trial, chains_of, chain_size, trial_of, trial_by, with_any_failed, after_fallen, after_closed, after_chain, after_chains}
use Rattle.records.specs.declared.reply.Refusal.{Refusal}
use Rattle.records.specs.Chains.Chain.{Closed, Open}
use Rattle.records.specs.Step.{at_clock, max_clock, clock_after, first_timestamp, step_machine}

-- a relation of machines to those that they come to by entries from a timestamp on
pub record LeadsOn {E R : Type 0} (rules : Rules E R) (Leads : Machine → Machine → Type 0) (from : ℕ) : Type 0 where
  pub itself : (m : Machine) → Leads m m
  pub onward : (m n o : Machine) → Leads m n → Leads n o → Leads m o
  pub accepts : (m : Machine) (ev : E) (timestamp : ℕ) → from ≤ timestamp → Leads m (rules.after m ev timestamp)
  pub fails : (m : Machine) (id : ℕ) → Leads m (with_failed m id)

module _ {E R : Type 0} (rules : Rules E R) (Leads : Machine → Machine → Type 0) (from : ℕ) (on : LeadsOn rules Leads from)
  where
    first_leads : (m : Machine) (failed_id : R → Option ℕ) (verdict : Option R) (rest : Trial R) → Leads m rest.machine → Leads m (trial_by m failed_id verdict rest).machine
    first_leads m failed_id None rest h = h
    first_leads m failed_id (Some result) rest h = on.itself m

    -- events tried in turn
    pub trial_leads : (m : Machine) (events : List E) (timestamp : ℕ) → from ≤ timestamp → Leads m (trial_of rules m events timestamp).machine
    unfolding trial_of
    trial_leads m [] timestamp le = on.itself m
    trial_leads m (ev ∷ events) timestamp le =
        let next = rules.after m ev timestamp in
        let rest = trial_of rules next events (timestamp + 1) in
        first_leads m (rules.failed_id ev) (rules.verdict m ev) rest (on.onward m next rest.machine (on.accepts m ev timestamp le) (trial_leads next events (timestamp + 1) (omega arith)))

    any_leads : (m : Machine) (id : Option ℕ) → Leads m (with_any_failed m id)
    any_leads m None = on.itself m
    any_leads m (Some id) = on.fails m id

    fallen_leads : (m : Machine) (refusal : Option (Refusal R)) → Leads m (after_fallen m refusal)
    fallen_leads m None = on.itself m
    fallen_leads m (Some refusal) = any_leads m refusal.failed_id

    closed_leads : (m : Machine) (trial : Trial R) (refusal : Option (Refusal R)) → Leads m trial.machine → Leads m (after_closed m trial refusal)
    closed_leads m trial None h = h
    closed_leads m trial (Some refusal) h = fallen_leads m (Some refusal)

    -- a chain, and chains in turn
    chain_leads : (m : Machine) (chain : Chain E) (timestamp : ℕ) → from ≤ timestamp → Leads m (after_chain rules m chain timestamp)
    unfolding after_chain
    chain_leads m (Closed events) timestamp le = let trial = trial_of rules m events timestamp in closed_leads m trial trial.refusal (trial_leads m events timestamp le)
    chain_leads m (Open events) timestamp le = fallen_leads m (trial_of rules m events timestamp).refusal

    pub chains_lead : (m : Machine) (chains : List (Chain E)) (timestamp : ℕ) → from ≤ timestamp → Leads m (after_chains rules m chains timestamp)
    unfolding after_chains
    chains_lead m [] timestamp le = on.itself m
    chains_lead m (chain ∷ chains) timestamp le =
        let next = after_chain rules m chain timestamp in
        on.onward m next (after_chains rules next chains (timestamp + chain_size chain)) (chain_leads m chain timestamp le) (chains_lead next chains (timestamp + chain_size chain) (omega arith))

    leads_if : (m n : Machine) (exhausted : Bool) → Leads m n → Leads m (cond exhausted m n)
    leads_if m n true h = on.itself m
    leads_if m n false h = h

    -- a batch, whose events all come behind the clock before it
    pub step_leads : (m : Machine) (batch : List E) (moment : ℕ) → from ≤ m.clock + 1 → ((clock : ℕ) → m.clock ≤ clock → Leads m (at_clock m clock)) → Leads m (step_machine rules m batch moment)
    unfolding step_machine
    step_leads m batch moment le later =
        let clock = clock_after m (length batch) moment in
        let first = first_timestamp clock (length batch) in
        let begun = at_clock m clock in
        let after = after_chains rules begun (chains_of rules.linked batch) first in
        leads_if m after (nat_lt max_clock clock) (on.onward m begun after (later clock (omega arith)) (chains_lead begun (chains_of rules.linked batch) first (omega arith)))
