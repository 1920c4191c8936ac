-- What an event meets in a machine, part by part.
use Rattle.std.proofs.Common.{◌≡◌, ℕ, true, false, Option, Some, None, refl, sym, ◌∙◌, arith}
use Rattle.std.specs.Option.{option_map}
use Rattle.std.proofs.lemmas.Option.{same_Some}
use Rattle.records.specs.declared.account.Account.{Account}
use Rattle.records.specs.declared.side.Side.{Side}
use Rattle.records.specs.declared.side.Side.TheVariants.{Debit, Credit}
use Rattle.records.specs.declared.transfer.Transfer.{Transfer}
use Rattle.records.specs.declared.transfer.TransferEvent.{TransferEvent}
use Rattle.records.specs.declared.facts.AccountWithBalances.{AccountWithBalances}
use Rattle.records.specs.declared.facts.PendingTransfer.{PendingTransfer}
use Rattle.records.specs.Flags.{is_post_or_void}
use Rattle.records.specs.Sides.{account_on, event_account_on}
use Rattle.records.specs.Machine.{Machine, account_with, transfer_with, has_id}
use Rattle.records.specs.Balances.{balances_in}
use Rattle.records.specs.Facts.{facts_of, account_of_facts, account_in, with_balances, with_state, with_pending_amount}
use Rattle.engine.proofs.FindByIdLemmas.{found_key}

-- the parts of the facts
pub existing_of : (m : Machine) (ev : TransferEvent) → (facts_of m ev).existing ≡ option_map (with_pending_amount m) (transfer_with ev.id m.transfers)
unfolding facts_of
existing_of m ev = refl

pub failed_of : (m : Machine) (ev : TransferEvent) → (facts_of m ev).failed ≡ has_id ev.id m.failed
unfolding facts_of
failed_of m ev = refl

pub pending_of : (m : Machine) (ev : TransferEvent) → is_post_or_void ev.flags ≡ true → (facts_of m ev).pending ≡ option_map (with_state m) (transfer_with ev.pending_id m.transfers)
unfolding facts_of
pending_of m ev ends = rw ends refl

pub no_pending_of : (m : Machine) (ev : TransferEvent) → is_post_or_void ev.flags ≡ false → (facts_of m ev).pending ≡ None
unfolding facts_of
no_pending_of m ev other = rw other refl

-- the account on a side: of a single-phase or pending transfer its own, of a post or void that of the pending transfer
pub own_account_of : (side : Side) (m : Machine) (ev : TransferEvent) → is_post_or_void ev.flags ≡ false → account_of_facts side (facts_of m ev) ≡ account_in m (event_account_on side ev)
unfolding facts_of
own_account_of Debit m ev other = rw other refl
own_account_of Credit m ev other = rw other refl

pub pending_account_of : (side : Side) (m : Machine) (ev : TransferEvent) (p : Transfer) → is_post_or_void ev.flags ≡ true → transfer_with ev.pending_id m.transfers ≡ Some p → account_of_facts side (facts_of m ev) ≡ account_in m (account_on side p)
unfolding facts_of
pending_account_of Debit m ev p ends found = rw (ends, found) refl
pending_account_of Credit m ev p ends found = rw (ends, found) refl

-- an account with the balances of this id
abbrev pub with_balances_of : Machine → ℕ → Account → AccountWithBalances
with_balances_of m id account = record { account = account; balances = balances_in m id }

-- an account that is there, as facts have it
pub account_found : (m : Machine) (id : ℕ) (a : Account) → account_with id m.accounts ≡ Some a → account_in m id ≡ Some (with_balances_of m id a)
account_found m id a found =
    let key = found_key (λ (x : Account). x.id) id m.accounts a found in
    rw found (λ i. Some (with_balances_of m (key i) a))

-- and the account that facts have
parts_by : (m : Machine) (id : ℕ) (has : AccountWithBalances) (found : Option Account) → account_with id m.accounts ≡ found → option_map (with_balances m) found ≡ Some has → (a : Account) × (account_with id m.accounts ≡ Some a) × (has ≡ with_balances_of m id a)
parts_by m id has None is h = grind arith
parts_by m id has (Some a) is h =
    let key = found_key (λ (x : Account). x.id) id m.accounts a is in
    (a, is, sym (same_Some (with_balances m a) has h) ∙ λ i. with_balances_of m (key i) a)

pub account_parts : (m : Machine) (id : ℕ) (has : AccountWithBalances) → account_in m id ≡ Some has → (a : Account) × (account_with id m.accounts ≡ Some a) × (has ≡ with_balances_of m id a)
account_parts m id has h = parts_by m id has (account_with id m.accounts) refl h

-- the pending transfer that facts have
pub pending_parts : (m : Machine) (p : PendingTransfer) (found : Option Transfer) → option_map (with_state m) found ≡ Some p → (t : Transfer) × (found ≡ Some t) × (p ≡ with_state m t)
pending_parts m p None h = grind arith
pending_parts m p (Some t) h = (t, refl, sym (same_Some (with_state m t) p h))

-- where facts have no transfer of the id, there is none
pub existing_parts : (m : Machine) (found : Option Transfer) → option_map (with_pending_amount m) found ≡ None → found ≡ None
existing_parts m None h = refl
existing_parts m (Some t) h = grind arith
