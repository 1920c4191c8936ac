-- What a transfer event meets in a machine: all that its verdict depends on.
use Rattle.std.specs.Prelude.{ℕ, Option, Some, None, if◌then◌else◌}
use Rattle.std.specs.Option.{option_map, option_and_then}
use Rattle.records.specs.declared.account.Account.{Account}
use Rattle.records.specs.declared.transfer.Transfer.{Transfer}
use Rattle.records.specs.declared.transfer.TransferEvent.{TransferEvent}
use Rattle.records.specs.declared.facts.PendingState.{PendingState}
use Rattle.records.specs.declared.facts.ExistingTransfer.{ExistingTransfer}
use Rattle.records.specs.declared.facts.PendingTransfer.{PendingTransfer}
use Rattle.records.specs.declared.facts.AccountWithBalances.{AccountWithBalances}
use Rattle.records.specs.declared.facts.TransferFacts.{TransferFacts}
use Rattle.records.specs.declared.side.Side.{Side}
use Rattle.records.specs.declared.side.Side.TheVariants.{Debit, Credit}
use Rattle.records.specs.Flags.{is_pending, is_post_or_void}
use Rattle.records.specs.Sides.{account_on, event_account_on}
use Rattle.records.specs.Machine.{Machine, account_with, transfer_with, has_id}
use Rattle.records.specs.Fate.{fate_of}
use Rattle.records.specs.Balances.{balances_in}

-- an account with its balances in the machine
abbrev pub with_balances : Machine → Account → AccountWithBalances
with_balances m account = record { account = account; balances = balances_in m account.id }

-- the account with this id, with its balances
abbrev pub account_in : Machine → ℕ → Option AccountWithBalances
account_in m id = option_map (with_balances m) (account_with id m.accounts)

-- the fate of a pending transfer at the machine's clock; no other transfer has one
abbrev pub state_in : Machine → Transfer → Option PendingState
state_in m transfer =
    if is_pending transfer.flags then Some (fate_of m.transfers m.clock transfer) else None

-- a transfer with its state in the machine
abbrev pub with_state : Machine → Transfer → PendingTransfer
with_state m transfer = record { transfer = transfer; state = state_in m transfer }

-- the transfer that a post or void names
abbrev pub pending_transfer_in : Machine → TransferEvent → Option PendingTransfer
pending_transfer_in m ev =
    if is_post_or_void ev.flags
    then option_map (with_state m) (transfer_with ev.pending_id m.transfers)
    else None

-- the amount of a transfer, or this one where there is none
abbrev pub amount_or : ℕ → Option Transfer → ℕ
amount_or amount None = amount
amount_or amount (Some transfer) = transfer.amount

-- of a post or void the amount of the pending transfer that it names, else the entry's own amount
abbrev pub pending_amount_in : Machine → Transfer → ℕ
pending_amount_in m entry =
    if is_post_or_void entry.flags
    then amount_or entry.amount (transfer_with entry.pending_id m.transfers)
    else entry.amount

-- an entry with the amount of the pending transfer that it names
abbrev pub with_pending_amount : Machine → Transfer → ExistingTransfer
with_pending_amount m entry =
    record { transfer = entry; pending_amount = pending_amount_in m entry }

-- the account of an event on a side: its own, or for a post or void that of the pending transfer
abbrev pub account_id_of : Side → TransferEvent → Option PendingTransfer → Option ℕ
account_id_of side ev pending =
    if is_post_or_void ev.flags then option_map (λ p. account_on side p.transfer) pending
    else Some (event_account_on side ev)

-- that account with its balances, if it is there
abbrev pub account_for : Side → Machine → TransferEvent → Option AccountWithBalances
account_for side m ev =
    option_and_then (account_in m) (account_id_of side ev (pending_transfer_in m ev))

-- all of it together
unfoldable pub facts_of : Machine → TransferEvent → TransferFacts
facts_of m ev = record {
  existing = option_map (with_pending_amount m) (transfer_with ev.id m.transfers);
  failed = has_id ev.id m.failed;
  pending = pending_transfer_in m ev;
  debit = account_for Debit m ev;
  credit = account_for Credit m ev;
}

-- the account on a side, as facts have it
abbrev pub account_of_facts : Side → TransferFacts → Option AccountWithBalances
account_of_facts Debit f = f.debit
account_of_facts Credit f = f.credit
