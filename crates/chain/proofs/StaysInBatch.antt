-- A machine in a batch stays in it, event by event and chain by chain.
use Rattle.std.proofs.Common.{◌≡◌, ℕ, ◌+◌, true, false, Option, Some, None, List, [], ◌∷◌, length}
use Rattle.std.proofs.Common.{is_none, if◌then◌else◌, arith, subst, add-zero}
use Rattle.records.specs.Machine.{Machine}
use Rattle.records.specs.declared.reply.Refusal.{Refusal}
use Rattle.records.specs.Chains.{Rules, Chain, trial_of, trial_by, after_chain, after_closed}
use Rattle.records.specs.Chains.{after_fallen, with_any_failed, chain_size}
use Rattle.records.specs.Chains.Chain.{Closed, Open}
use Rattle.chain.specs.InBatch.{IsInBatch, after_event}
use Rattle.chain.specs.EventLaws.{EventLaws, stays_later}

pub event_keeps_batch :
    {E R : Type 0} (rules : Rules E R) → EventLaws rules →
    (m : Machine) (ev : E) (timestamp clock : ℕ) → IsInBatch m clock timestamp →
    IsInBatch (after_event rules m ev timestamp) clock (timestamp + 1)
event_keeps_batch rules laws m ev timestamp clock before =
    elim (is_none (rules.verdict m ev)) as (λ b. IsInBatch
    (if b then rules.after m ev timestamp else m) clock (timestamp + 1)) [
      | true ↦ laws.keeps_batch m ev timestamp clock before
      | false ↦ stays_later m clock timestamp (timestamp + 1) before (omega arith)
    ]

pub trial_keeps_batch :
    {E R : Type 0} (rules : Rules E R) → EventLaws rules →
    (m : Machine) (events : List E) (first clock : ℕ) → IsInBatch m clock first →
    IsInBatch (trial_of rules m events first).machine clock (first + length events)
unfolding trial_of
trial_keeps_batch rules laws m [] first clock before = rw add-zero before
trial_keeps_batch rules laws m (ev ∷ events) first clock before =
    let later : IsInBatch (trial_of rules (rules.after m ev first) events (first + 1)).machine clock
    (first + length (ev ∷ events)) =
    let size : first + 1 + length events ≡ first + length (ev ∷ events) = omega arith in
    subst (IsInBatch (trial_of rules (rules.after m ev first) events (first + 1)).machine clock)
    size (trial_keeps_batch rules laws (rules.after m ev first) events (first + 1) clock
    (laws.keeps_batch m ev first clock before)) in
    elim (rules.verdict m ev) as (λ v. IsInBatch
    (trial_by m (rules.failed_id ev) v
    (trial_of rules (rules.after m ev first) events (first + 1))).machine clock
    (first + length (ev ∷ events))) [
      | None ↦ later
      | Some result ↦ stays_later m clock first (first + length (ev ∷ events)) before (omega arith)
    ]

-- a failed id changes nothing of it
fallen_keeps_batch :
    {R : Type 0} (m : Machine) (clock timestamp : ℕ) (refusal : Option (Refusal R)) →
    IsInBatch m clock timestamp → IsInBatch (after_fallen m refusal) clock timestamp
fallen_keeps_batch m clock timestamp None before = before
fallen_keeps_batch m clock timestamp (Some refusal) before =
    elim refusal.failed_id as (λ id. IsInBatch (with_any_failed m id) clock timestamp) [
      | None ↦ before
      | Some id ↦ record {
        at = before.at;
        after_accounts = before.after_accounts;
        after_transfers =
            before.after_transfers;
      }
    ]

pub chain_keeps_batch :
    {E R : Type 0} (rules : Rules E R) → EventLaws rules →
    (m : Machine) (chain : Chain E) (first clock : ℕ) → IsInBatch m clock first →
    IsInBatch (after_chain rules m chain first) clock (first + chain_size chain)
unfolding after_chain
chain_keeps_batch rules laws m (Open events) first clock before =
    fallen_keeps_batch m clock (first + chain_size (Open events))
    (trial_of rules m events first).refusal
    (stays_later m clock first (first + chain_size (Open events)) before (omega arith))
chain_keeps_batch rules laws m (Closed events) first clock before =
    elim (trial_of rules m events first).refusal as (λ r. IsInBatch
    (after_closed m (trial_of rules m events first) r) clock (first + length events)) [
      | None ↦ trial_keeps_batch rules laws m events first clock before
      | Some refusal ↦
          fallen_keeps_batch m clock (first + length events) (Some refusal)
          (stays_later m clock first (first + length events) before (omega arith))
    ]
