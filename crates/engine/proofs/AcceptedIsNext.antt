-- An event that is accepted on the facts of a valid machine leaves the next entry of that machine.
use Rattle.std.proofs.Common.{◌≡◌, ◌≤◌, ℕ, true, Some, None, inl, inr, refl, sym, ap, ◌∙◌, subst, subst₂}
use Rattle.std.proofs.lemmas.Bool.{cases_Bool}
use Rattle.records.specs.declared.account.Account.{Account}
use Rattle.records.specs.declared.accepted.Accepted.{Accepted}
use Rattle.records.specs.declared.side.Side.{Side}
use Rattle.records.specs.declared.side.Side.TheVariants.{Debit, Credit}
use Rattle.records.specs.declared.transfer.Transfer.{Transfer}
use Rattle.records.specs.declared.transfer.TransferEvent.{TransferEvent}
use Rattle.records.specs.declared.facts.PendingTransfer.{PendingTransfer}
use Rattle.records.specs.declared.facts.TransferFacts.{TransferFacts}
use Rattle.records.specs.Flags.{is_post_or_void}
use Rattle.records.specs.Sides.{account_on}
use Rattle.records.specs.Machine.{Machine, max_amount, transfer_with}
use Rattle.records.specs.Balances.{balances_in}
use Rattle.records.specs.Facts.{facts_of, account_of_facts, account_in}
use Rattle.records.specs.StoredRecord.{stored_transfer}
use Rattle.records.specs.TransferVerdict.{transfer_verdict}
use Rattle.records.specs.Step.{transfer_verdict_in}
use Rattle.records.specs.Widths.{IsTransferInWidth}
use Rattle.records.specs.Valid.{IsValid, IsNextTimestamp, IsNextTransfer, event_of_transfer, with_transfer}
use Rattle.records.specs.Accepted.{IsAccepted, ending_of}
use Rattle.engine.specs.Promises.{IsSentAsStored, entry_for}
use Rattle.engine.specs.Decision.{IsDecision, IsAfter, told_after}
use Rattle.engine.specs.declared.decision.Decision.TheVariants as for_transfer
use Rattle.engine.proofs.AcceptedEventLemmas.{AcceptedPostOrVoid, accepted_new_id, accepted_post_or_void, accepted_single_or_pending}
use Rattle.engine.proofs.FindByIdLemmas.{found_all}
use Rattle.engine.proofs.SideLemmas.{event_account}
use Rattle.engine.proofs.FactsLemmas.{pending_of, pending_parts, own_account_of, pending_account_of, with_balances_of, account_found}
use Rattle.engine.proofs.NextTransferLemmas.{next_post_or_void, next_single_or_pending}
use Rattle.engine.proofs.SentAgainLemmas.{SentAgain, again, same_facts, post_or_void_sent_again, single_or_pending_sent_again}
use Rattle.engine.proofs.IsSound.{IsSound, IsEntrySound}
use Rattle.engine.proofs.SoundWithTransfer.{pending_is_sound}
use Rattle.engine.proofs.Sound.{sound}
use Rattle.engine.proofs.BalancesAfterLemmas.{balances_with}

-- the pending amount that a post or void names is within its width
pending_fits : (m : Machine) (ev : TransferEvent) (a : AcceptedPostOrVoid (facts_of m ev) ev) → IsSound m → is_post_or_void ev.flags ≡ true → a.pending.transfer.amount ≤ max_amount
pending_fits m ev a s ends =
    let p = pending_parts m a.pending (transfer_with ev.pending_id m.transfers) (sym (pending_of m ev ends) ∙ a.is_pending) in
    let entry = found_all (IsEntrySound m.accounts m.transfers) (λ (x : Transfer). x.id) ev.pending_id m.transfers p.0 s.entries p.1 in
    subst (λ (x : PendingTransfer). x.transfer.amount ≤ max_amount) (sym p.2) entry.amount

-- sent again as it is stored, an accepted event is answered and stored the same at its facts
pub sent_again : (m : Machine) (ev : TransferEvent) (timestamp : ℕ) → IsSound m → transfer_verdict (facts_of m ev) ev ≡ None → SentAgain (facts_of m ev) ev timestamp m.clock
sent_again m ev timestamp s h =
    let f = facts_of m ev in
    let any = accepted_new_id f ev h in
    elim (cases_Bool (is_post_or_void ev.flags)) [
      | inl ends ↦ let a = accepted_post_or_void f ev h ends in post_or_void_sent_again f ev timestamp m.clock any ends a (pending_fits m ev a s ends)
      | inr new ↦ single_or_pending_sent_again f ev timestamp m.clock any new (accepted_single_or_pending f ev h new)
    ]

-- and so in the machine
pub sent_as_stored : (m : Machine) (ev : TransferEvent) (timestamp : ℕ) → IsSound m → transfer_verdict_in m ev ≡ None → IsSentAsStored m (entry_for m ev timestamp)
unfolding transfer_verdict_in
sent_as_stored m ev timestamp s h =
    let f = facts_of m ev in
    let r = sent_again m ev timestamp s h in
    let same = sym (same_facts m f ev timestamp m.clock) in
    record {
      accepted = subst (λ (g : TransferFacts). transfer_verdict g (again f ev timestamp m.clock) ≡ None) same r.accepted;
      stored = subst (λ (g : TransferFacts). stored_transfer g (again f ev timestamp m.clock) timestamp m.clock ≡ stored_transfer f ev timestamp m.clock) same r.stored;
    }

-- the record that it leaves is the next entry
pub next_by_verdict : (m : Machine) (ev : TransferEvent) (timestamp : ℕ) → IsSound m → transfer_verdict (facts_of m ev) ev ≡ None → IsNextTimestamp m timestamp → IsTransferInWidth (stored_transfer (facts_of m ev) ev timestamp m.clock) → IsNextTransfer m (stored_transfer (facts_of m ev) ev timestamp m.clock)
unfolding transfer_verdict_in
next_by_verdict m ev timestamp s h time widths =
    let r = sent_as_stored m ev timestamp s h in
    record { widths = widths; timestamp = time; at = refl; accepted = r.accepted; stored = r.stored }

-- its account on a side, as its facts have it
account_of_next : (side : Side) (m : Machine) (t : Transfer) → IsSound m → IsNextTransfer m t → (a : Account) × (account_of_facts side (facts_of m (event_of_transfer t)) ≡ Some (with_balances_of m (account_on side t) a))
account_of_next side m t s next =
    let ev = event_of_transfer t in
    elim (cases_Bool (is_post_or_void t.flags)) [
      | inl ends ↦
          let e = next_post_or_void m t next ends in
          let p = pending_is_sound m t s e in
          let id = account_on side e.pending in
          (p.account side, pending_account_of side m ev e.pending ends e.found ∙ (account_found m id (p.account side) (p.is_account side) ∙ ap (λ (x : ℕ). Some (with_balances_of m x (p.account side))) (sym (e.account side))))
      | inr new ↦
          let n = next_single_or_pending m t next new in
          (n.account side, own_account_of side m ev new ∙ (ap (account_in m) (event_account side t) ∙ account_found m (account_on side t) (n.account side) (n.is_account side)))
    ]

-- so the balances that follow from the facts of its own event are those of the machine that has it
after_is : (side : Side) (m : Machine) (a : Accepted) → IsSound m → IsNextTransfer m a.stored → IsAfter side (facts_of m (event_of_transfer a.stored)) a → told_after side a ≡ balances_in (with_transfer m a.stored) (account_on side a.stored)
after_is side m a s next after =
    let found = account_of_next side m a.stored s next in
    after (with_balances_of m (account_on side a.stored) found.0) found.1 ∙ sym (balances_with side m a.stored s next)

-- what is told of an accepted event is right in a valid machine
accepted_next : (m : Machine) (ev : TransferEvent) (timestamp : ℕ) (a : Accepted) → IsValid m → transfer_verdict (facts_of m ev) ev ≡ None → IsNextTimestamp m timestamp → IsTransferInWidth a.stored → a.stored ≡ stored_transfer (facts_of m ev) ev timestamp m.clock → a.ends ≡ ending_of a.stored → IsAfter Debit (facts_of m ev) a → IsAfter Credit (facts_of m ev) a → IsAccepted m a
accepted_next m ev timestamp a valid h time widths stored ends debit credit =
    let s = sound m valid in
    let next = subst (IsNextTransfer m) (sym stored) (next_by_verdict m ev timestamp s h time (subst IsTransferInWidth stored widths)) in
    let same : facts_of m (event_of_transfer a.stored) ≡ facts_of m ev = ap (λ (x : Transfer). facts_of m (event_of_transfer x)) stored ∙ same_facts m (facts_of m ev) ev timestamp m.clock in
    let at_own = λ (side : Side) (after : IsAfter side (facts_of m ev) a). after_is side m a s next (subst (λ (f : TransferFacts). IsAfter side f a) (sym same) after) in
    record { next = next; debit_after = at_own Debit debit; credit_after = at_own Credit credit; ends = ends }

-- the same from a decision on facts that are those of the machine
pub decided_next : (m : Machine) (f : TransferFacts) (ev : TransferEvent) (timestamp clock : ℕ) (a : Accepted) → IsValid m → f ≡ facts_of m ev → clock ≡ m.clock → IsNextTimestamp m timestamp → IsTransferInWidth a.stored → IsDecision f ev timestamp clock (for_transfer.Accept a) → IsAfter Debit f a → IsAfter Credit f a → IsAccepted m a
decided_next m f ev timestamp clock a valid facts at time widths decision debit credit =
    let own = subst₂ (λ (g : TransferFacts) (k : ℕ). IsDecision g ev timestamp k (for_transfer.Accept a)) facts at decision in
    let after = λ (side : Side) (h : IsAfter side f a). subst (λ (g : TransferFacts). IsAfter side g a) facts h in
    accepted_next m ev timestamp a valid own.0 time widths own.1 own.2 (after Debit debit) (after Credit credit)
