-- What an event within its widths leaves is within them.
use Rattle.std.proofs.Common.{◌≡◌, ◌<◌, ◌-◌, ◌^◌, ℕ, Bool, true, false, min, cond, eqb, Option, Some, None, inl, inr, refl, sym, ◌∙◌, subst, arith}
use Rattle.std.specs.Option.{option_map}
use Rattle.std.proofs.lemmas.Bool.{cases_Bool}
use Rattle.std.proofs.lemmas.Bool.Decides.{nat_tests}
use Rattle.records.specs.declared.account.AccountEvent.{AccountEvent}
use Rattle.records.specs.declared.transfer.Transfer.{Transfer}
use Rattle.records.specs.declared.transfer.TransferEvent.{TransferEvent}
use Rattle.records.specs.declared.facts.AccountWithBalances.{AccountWithBalances}
use Rattle.records.specs.declared.facts.PendingTransfer.{PendingTransfer}
use Rattle.records.specs.declared.facts.TransferFacts.{TransferFacts}
use Rattle.records.specs.Flags.{is_post, is_void, is_post_or_void}
use Rattle.records.specs.Machine.{Machine, transfer_with}
use Rattle.records.specs.Facts.{facts_of, with_state}
use Rattle.records.specs.ActualAmount.{amount_of_pending, amount_between, lowered_amount, room_on}
use Rattle.records.specs.declared.side.Side.{Side}
use Rattle.records.specs.declared.side.Side.TheVariants.{Debit, Credit}
use Rattle.records.specs.Sides.{is_balancing_on}
use Rattle.records.specs.StoredRecord.{stored_account, stored_transfer, field_from, source_of}
use Rattle.records.specs.Widths.{IsAccountInWidth, IsTransferInWidth, IsAccountEventInWidth, IsTransferEventInWidth}
use Rattle.records.specs.EntryByEntry.{AreFieldsInWidth}
use Rattle.engine.proofs.FindByIdLemmas.{found_all}
use Rattle.engine.proofs.FactsLemmas.{pending_of, no_pending_of, pending_parts}

pub account_in_width : (ev : AccountEvent) (timestamp : ℕ) → IsAccountEventInWidth ev → timestamp < 2 ^ 64 → IsAccountInWidth (stored_account ev timestamp)
account_in_width ev timestamp w h = record { id = w.id; user_data_128 = w.user_data_128; user_data_64 = w.user_data_64; user_data_32 = w.user_data_32; ledger = w.ledger; code = w.code; flags = w.flags; timestamp = h }

-- the transfer that facts name, if any, is within its widths
abbrev PendingInWidth : Option PendingTransfer → Type 0
PendingInWidth None = Unit {0}
PendingInWidth (Some p) = IsTransferInWidth p.transfer

-- a field that is taken from it, or given
field_in_width : (field : Transfer → ℕ) (pending : Option PendingTransfer) (given bound : ℕ) → given < bound → ((t : Transfer) → IsTransferInWidth t → field t < bound) → PendingInWidth pending → field_from field pending given < bound
field_in_width field None given bound h of_all w = h
field_in_width field (Some p) given bound h of_all w = let taken = of_all p.transfer w in grind (arith, nat_tests)

ended_in_width : (limit bound pending amount : ℕ) (void post : Bool) → pending < bound → amount < bound → cond void pending (cond post (cond (eqb amount limit) pending amount) amount) < bound
ended_in_width limit bound pending amount void post p a = grind (arith, nat_tests)

pending_amount_fits : (pending : Option PendingTransfer) (ev : TransferEvent) → IsTransferEventInWidth ev → PendingInWidth pending → amount_of_pending pending ev < 2 ^ 128
pending_amount_fits None ev w n = w.amount
pending_amount_fits (Some p) ev w n = ended_in_width (2 ^ 128 - 1) (2 ^ 128) p.transfer.amount ev.amount (is_void ev.flags) (is_post ev.flags) n.amount w.amount

lowered_by : (flag : Bool) (room amount bound : ℕ) → amount < bound → cond flag (min amount room) amount < bound
lowered_by flag room amount bound h = grind (arith, nat_tests)

lowered_in_width : (side : Side) (a : AccountWithBalances) (ev : TransferEvent) (amount bound : ℕ) → amount < bound → lowered_amount side a ev amount < bound
lowered_in_width side a ev amount bound h = lowered_by (is_balancing_on side ev.flags) (room_on side a.balances) amount bound h

amount_between_fits : (debit credit : Option AccountWithBalances) (ev : TransferEvent) → IsTransferEventInWidth ev → amount_between debit credit ev < 2 ^ 128
amount_between_fits (Some debit) (Some credit) ev w = lowered_in_width Credit credit ev (lowered_amount Debit debit ev ev.amount) (2 ^ 128) (lowered_in_width Debit debit ev ev.amount (2 ^ 128) w.amount)
amount_between_fits (Some debit) None ev w = w.amount
amount_between_fits None credit ev w = w.amount

either : (b : Bool) (x y bound : ℕ) → x < bound → y < bound → cond b x y < bound
either true x y bound h k = h
either false x y bound h k = k

pending_only : (ends : Bool) (pending : Option PendingTransfer) → PendingInWidth pending → PendingInWidth (cond ends pending None)
pending_only true pending w = w
pending_only false pending w = tt

stored_in_width : (f : TransferFacts) (ev : TransferEvent) (timestamp clock : ℕ) → IsTransferEventInWidth ev → PendingInWidth f.pending → timestamp < 2 ^ 64 → clock < 2 ^ 64 → IsTransferInWidth (stored_transfer f ev timestamp clock)
stored_in_width f ev timestamp clock w n time at =
    let p = source_of f ev in
    let from = pending_only (is_post_or_void ev.flags) f.pending n in
    record {
      id = w.id;
      debit_account_id = field_in_width (λ t. t.debit_account_id) p ev.debit_account_id (2 ^ 128) w.debit_account_id (λ t h. h.debit_account_id) from;
      credit_account_id = field_in_width (λ t. t.credit_account_id) p ev.credit_account_id (2 ^ 128) w.credit_account_id (λ t h. h.credit_account_id) from;
      amount = either (is_post_or_void ev.flags) (amount_of_pending f.pending ev) (amount_between f.debit f.credit ev) (2 ^ 128) (pending_amount_fits f.pending ev w n) (amount_between_fits f.debit f.credit ev w);
      pending_id = w.pending_id;
      user_data_128 = field_in_width (λ t. t.user_data_128) p ev.user_data_128 (2 ^ 128) w.user_data_128 (λ t h. h.user_data_128) from;
      user_data_64 = field_in_width (λ t. t.user_data_64) p ev.user_data_64 (2 ^ 64) w.user_data_64 (λ t h. h.user_data_64) from;
      user_data_32 = field_in_width (λ t. t.user_data_32) p ev.user_data_32 (2 ^ 32) w.user_data_32 (λ t h. h.user_data_32) from;
      timeout = w.timeout;
      ledger = field_in_width (λ t. t.ledger) p ev.ledger (2 ^ 32) w.ledger (λ t h. h.ledger) from;
      code = field_in_width (λ t. t.code) p ev.code (2 ^ 16) w.code (λ t h. h.code) from;
      flags = w.flags;
      timestamp = time;
      at = at;
    }

pending_in_width : (m : Machine) (pending : Option PendingTransfer) (found : Option Transfer) (id : ℕ) → AreFieldsInWidth m → transfer_with id m.transfers ≡ found → pending ≡ option_map (with_state m) found → PendingInWidth pending
pending_in_width m None found id w is h = tt
pending_in_width m (Some p) found id w is h =
    let parts = pending_parts m p found (sym h) in
    subst (λ (x : PendingTransfer). IsTransferInWidth x.transfer) (sym parts.2) (found_all IsTransferInWidth (λ (t : Transfer). t.id) id m.transfers parts.0 w.transfers (is ∙ parts.1))

facts_in_width : (m : Machine) (ev : TransferEvent) → AreFieldsInWidth m → PendingInWidth (facts_of m ev).pending
facts_in_width m ev w = elim (cases_Bool (is_post_or_void ev.flags)) [
  | inl ends ↦ pending_in_width m (facts_of m ev).pending (transfer_with ev.pending_id m.transfers) ev.pending_id w refl (pending_of m ev ends)
  | inr new ↦ subst PendingInWidth (sym (no_pending_of m ev new)) tt
]

-- the record of an event in a machine of fields within their widths
pub transfer_in_width : (m : Machine) (ev : TransferEvent) (timestamp clock : ℕ) → AreFieldsInWidth m → IsTransferEventInWidth ev → timestamp < 2 ^ 64 → clock < 2 ^ 64 → IsTransferInWidth (stored_transfer (facts_of m ev) ev timestamp clock)
transfer_in_width m ev timestamp clock fields w time at = stored_in_width (facts_of m ev) ev timestamp clock w (facts_in_width m ev fields) time at
