-- What it says of an event and its facts that the verdict is none.
use Rattle.std.proofs.Common.{◌≡◌, true, false, Option, Some, None, refl, arith, cond}
use Rattle.records.specs.declared.transfer.TransferEvent.{TransferEvent}
use Rattle.records.specs.declared.facts.AccountWithBalances.{AccountWithBalances}
use Rattle.records.specs.declared.facts.PendingTransfer.{PendingTransfer}
use Rattle.records.specs.declared.facts.ExistingTransfer.{ExistingTransfer}
use Rattle.records.specs.declared.facts.TransferFacts.{TransferFacts}
use Rattle.records.specs.Flags.{is_post_or_void}
use Rattle.records.specs.FirstOf.{first_of}
use Rattle.records.specs.ActualAmount.{amount_balanced}
use Rattle.records.specs.TransferVerdict.{transfer_verdict, transfer_id_verdict, transfer_event_results, new_transfer_results, new_transfer_verdict, post_or_void_verdict, pending_transfer_verdict, post_or_void_results, pending_transfer_results, single_or_pending_verdict, accounts_verdict, room_verdict, single_or_pending_results, ledger_results, overflow_results, limit_results, transfer_difference}
use Rattle.engine.proofs.FirstOfLemmas.{AllFail, all_fail, none_from_all_fail, or_else-none, or_else-from_none}

-- what any accepted event meets: its id is new
pub record AcceptedNew (f : TransferFacts) (ev : TransferEvent) : Type 0 where
  pub event : AllFail (transfer_event_results ev)
  pub unknown : f.existing ≡ None
  pub first : AllFail (new_transfer_results f ev)

-- what an accepted post or void meets
pub record AcceptedPostOrVoid (f : TransferFacts) (ev : TransferEvent) : Type 0 where
  pub pending : PendingTransfer
  pub is_pending : f.pending ≡ Some pending
  pub own : AllFail (post_or_void_results ev)
  pub rows : AllFail (pending_transfer_results pending ev)

-- what any other accepted event meets
pub record AcceptedSingleOrPending (f : TransferFacts) (ev : TransferEvent) : Type 0 where
  pub debit : AccountWithBalances
  pub credit : AccountWithBalances
  pub is_debit : f.debit ≡ Some debit
  pub is_credit : f.credit ≡ Some credit
  pub own : AllFail (single_or_pending_results ev)
  pub ledgers : AllFail (ledger_results debit credit ev)
  pub room : AllFail (overflow_results debit credit (amount_balanced debit credit ev) ev)
  pub limits : AllFail (limit_results debit credit (amount_balanced debit credit ev))

-- each table, by what the facts hold
existing_none : (existing : Option ExistingTransfer) (f : TransferFacts) (ev : TransferEvent) → transfer_id_verdict existing f ev ≡ None → (existing ≡ None) × (new_transfer_verdict f ev ≡ None)
existing_none None f ev h = (refl, h)
existing_none (Some old) f ev h = let parts = or_else-none (transfer_difference old.transfer old.pending_amount ev) _ h in grind (arith, parts.1)

pending_none : (found : Option PendingTransfer) (ev : TransferEvent) → pending_transfer_verdict found ev ≡ None → (p : PendingTransfer) × (found ≡ Some p) × AllFail (pending_transfer_results p ev)
pending_none None ev h = grind arith
pending_none (Some p) ev h = (p, refl, all_fail (pending_transfer_results p ev) h)

-- both accounts are there, and have room
abbrev HasRoom : AccountWithBalances → AccountWithBalances → TransferEvent → Type 0
HasRoom debit credit ev = AllFail (ledger_results debit credit ev) × AllFail (overflow_results debit credit (amount_balanced debit credit ev) ev) × AllFail (limit_results debit credit (amount_balanced debit credit ev))

room_none : (debit credit : AccountWithBalances) (ev : TransferEvent) → accounts_verdict (Some debit) (Some credit) ev ≡ None → HasRoom debit credit ev
room_none debit credit ev h =
    let outer = or_else-none (first_of (ledger_results debit credit ev)) (room_verdict debit credit (amount_balanced debit credit ev) ev) h in
    let inner = or_else-none (first_of (overflow_results debit credit (amount_balanced debit credit ev) ev)) (first_of (limit_results debit credit (amount_balanced debit credit ev))) outer.1 in
    (all_fail (ledger_results debit credit ev) outer.0, all_fail (overflow_results debit credit (amount_balanced debit credit ev) ev) inner.0, all_fail (limit_results debit credit (amount_balanced debit credit ev)) inner.1)

accounts_none : (debit credit : Option AccountWithBalances) (ev : TransferEvent) → accounts_verdict debit credit ev ≡ None → (d : AccountWithBalances) × (c : AccountWithBalances) × (debit ≡ Some d) × (credit ≡ Some c) × HasRoom d c ev
accounts_none None credit ev h = grind arith
accounts_none (Some d) None ev h = grind arith
accounts_none (Some d) (Some c) ev h = (d, c, refl, refl, room_none d c ev h)

new_id_none : (f : TransferFacts) (ev : TransferEvent) → transfer_verdict f ev ≡ None → AllFail (transfer_event_results ev) × (f.existing ≡ None) × (new_transfer_verdict f ev ≡ None)
unfolding transfer_verdict
new_id_none f ev h =
    let outer = or_else-none (first_of (transfer_event_results ev)) (transfer_id_verdict f.existing f ev) h in
    let inner = existing_none f.existing f ev outer.1 in
    (all_fail (transfer_event_results ev) outer.0, inner.0, inner.1)

body_none : (f : TransferFacts) (ev : TransferEvent) → transfer_verdict f ev ≡ None → cond (is_post_or_void ev.flags) (post_or_void_verdict f ev) (single_or_pending_verdict f ev) ≡ None
body_none f ev h = (or_else-none (first_of (new_transfer_results f ev)) _ (new_id_none f ev h).2).1

-- an event without a refusal meets all rows of its kind
pub accepted_new_id : (f : TransferFacts) (ev : TransferEvent) → transfer_verdict f ev ≡ None → AcceptedNew f ev
accepted_new_id f ev h =
    let parts = new_id_none f ev h in
    let flags = or_else-none (first_of (new_transfer_results f ev)) _ parts.2 in
    record { event = parts.0; unknown = parts.1; first = all_fail (new_transfer_results f ev) flags.0 }

pub accepted_post_or_void : (f : TransferFacts) (ev : TransferEvent) → transfer_verdict f ev ≡ None → is_post_or_void ev.flags ≡ true → AcceptedPostOrVoid f ev
accepted_post_or_void f ev h ends =
    let parts = or_else-none (first_of (post_or_void_results ev)) (pending_transfer_verdict f.pending ev) (rw ends at (body_none f ev h)) in
    let found = pending_none f.pending ev parts.1 in
    record { pending = found.0; is_pending = found.1; own = all_fail (post_or_void_results ev) parts.0; rows = found.2 }

pub accepted_single_or_pending : (f : TransferFacts) (ev : TransferEvent) → transfer_verdict f ev ≡ None → is_post_or_void ev.flags ≡ false → AcceptedSingleOrPending f ev
accepted_single_or_pending f ev h ends =
    let parts = or_else-none (first_of (single_or_pending_results ev)) (accounts_verdict f.debit f.credit ev) (rw ends at (body_none f ev h)) in
    let found = accounts_none f.debit f.credit ev parts.1 in
    record { debit = found.0; credit = found.1; is_debit = found.2; is_credit = found.3; own = all_fail (single_or_pending_results ev) parts.0; ledgers = found.4.0; room = found.4.1; limits = found.4.2 }

-- no table has an answer, if that of its kind has none
none_from_body : (f : TransferFacts) (ev : TransferEvent) → AcceptedNew f ev → cond (is_post_or_void ev.flags) (post_or_void_verdict f ev) (single_or_pending_verdict f ev) ≡ None → transfer_verdict f ev ≡ None
unfolding transfer_verdict
none_from_body f ev new body =
    or_else-from_none (first_of (transfer_event_results ev)) (transfer_id_verdict f.existing f ev) (none_from_all_fail (transfer_event_results ev) new.event)
    (rw new.unknown (or_else-from_none (first_of (new_transfer_results f ev)) _ (none_from_all_fail (new_transfer_results f ev) new.first) body))

-- and an event that meets it is accepted
pub post_or_void_is_accepted : (f : TransferFacts) (ev : TransferEvent) → AcceptedNew f ev → is_post_or_void ev.flags ≡ true → AcceptedPostOrVoid f ev → transfer_verdict f ev ≡ None
post_or_void_is_accepted f ev new ends a = none_from_body f ev new (rw ends (or_else-from_none (first_of (post_or_void_results ev)) (pending_transfer_verdict f.pending ev) (none_from_all_fail (post_or_void_results ev) a.own) (rw a.is_pending (none_from_all_fail (pending_transfer_results a.pending ev) a.rows))))

pub single_or_pending_is_accepted : (f : TransferFacts) (ev : TransferEvent) → AcceptedNew f ev → is_post_or_void ev.flags ≡ false → AcceptedSingleOrPending f ev → transfer_verdict f ev ≡ None
single_or_pending_is_accepted f ev new ends a =
    let room : room_verdict a.debit a.credit (amount_balanced a.debit a.credit ev) ev ≡ None = or_else-from_none (first_of (overflow_results a.debit a.credit (amount_balanced a.debit a.credit ev) ev)) (first_of (limit_results a.debit a.credit (amount_balanced a.debit a.credit ev))) (none_from_all_fail (overflow_results a.debit a.credit (amount_balanced a.debit a.credit ev) ev) a.room) (none_from_all_fail (limit_results a.debit a.credit (amount_balanced a.debit a.credit ev)) a.limits) in
    none_from_body f ev new (rw ends (or_else-from_none (first_of (single_or_pending_results ev)) (accounts_verdict f.debit f.credit ev) (none_from_all_fail (single_or_pending_results ev) a.own) (rw (a.is_debit, a.is_credit) (or_else-from_none (first_of (ledger_results a.debit a.credit ev)) _ (none_from_all_fail (ledger_results a.debit a.credit ev) a.ledgers) room))))
