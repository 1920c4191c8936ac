-- What the worked examples are written in: events, a base machine, and what a batch tells.
use Rattle.std.specs.Prelude.{ℕ, List, [], ◌∷◌, map, Option, Some, None}
use Rattle.std.specs.Option.{option_map}
use Rattle.records.specs.declared.account.AccountEvent.{AccountEvent}
use Rattle.records.specs.declared.transfer.TransferEvent.{TransferEvent}
use Rattle.records.specs.declared.balances.Balances.{Balances}
use Rattle.records.specs.AccountResultNames as for_accounts
use Rattle.records.specs.TransferResultNames as for_transfers
use Rattle.records.specs.Machine.{Machine, new_machine, transfer_with}
use Rattle.records.specs.Balances.{balances_in}
use Rattle.records.specs.Step.{account_rules, transfer_rules, Outcome, Answered, Exhausted, step_outcome, step_machine}

-- an account with these flags, of ledger 7 and code 10
abbrev pub account_event : ℕ → ℕ → AccountEvent
account_event id flags = record { id = id; debits_pending = 0; debits_posted = 0; credits_pending = 0; credits_posted = 0; user_data_128 = 0; user_data_64 = 0; user_data_32 = 0; ledger = 7; code = 10; flags = record { 0 = flags }; timestamp = 0 }

-- a transfer of ledger 7 and code 1
abbrev pub transfer_event : ℕ → ℕ → ℕ → ℕ → ℕ → TransferEvent
transfer_event id debit credit amount flags = record { id = id; debit_account_id = debit; credit_account_id = credit; amount = amount; pending_id = 0; user_data_128 = 0; user_data_64 = 0; user_data_32 = 0; timeout = 0; ledger = 7; code = 1; flags = record { 0 = flags }; timestamp = 0 }

-- a post or void of a pending transfer
abbrev pub ending_event : ℕ → ℕ → ℕ → ℕ → TransferEvent
ending_event id pending amount flags = record { id = id; debit_account_id = 0; credit_account_id = 0; amount = amount; pending_id = pending; user_data_128 = 0; user_data_64 = 0; user_data_32 = 0; timeout = 0; ledger = 0; code = 0; flags = record { 0 = flags }; timestamp = 0 }

abbrev pub single : ℕ → ℕ → ℕ → ℕ → TransferEvent
single id debit credit amount = transfer_event id debit credit amount 0

abbrev pub linked : ℕ → ℕ → ℕ → ℕ → TransferEvent
linked id debit credit amount = transfer_event id debit credit amount 1

abbrev pub pending : ℕ → ℕ → ℕ → ℕ → TransferEvent
pending id debit credit amount = transfer_event id debit credit amount 2

abbrev pub post : ℕ → ℕ → ℕ → TransferEvent
post id of amount = ending_event id of amount 4

abbrev pub void : ℕ → ℕ → ℕ → TransferEvent
void id of amount = ending_event id of amount 8

-- what a batch tells: the clock, and the number and timestamp of each result; nothing where the clock is exhausted
abbrev pub told : {R : Type 0} → (R → ℕ) → Outcome R → Option (ℕ × List (ℕ × ℕ))
told number (Answered clock results) = Some (clock, map (λ r. (number r.result, r.timestamp)) results)
told number Exhausted = None

abbrev pub told_accounts : Machine → List AccountEvent → ℕ → Option (ℕ × List (ℕ × ℕ))
told_accounts m batch moment = told for_accounts.number_of (step_outcome account_rules m batch moment)

abbrev pub told_transfers : Machine → List TransferEvent → ℕ → Option (ℕ × List (ℕ × ℕ))
told_transfers m batch moment = told for_transfers.number_of (step_outcome transfer_rules m batch moment)

abbrev pub after_accounts : Machine → List AccountEvent → ℕ → Machine
after_accounts m batch moment = step_machine account_rules m batch moment

abbrev pub after_transfers : Machine → List TransferEvent → ℕ → Machine
after_transfers m batch moment = step_machine transfer_rules m batch moment

-- debits_pending, debits_posted, credits_pending and credits_posted of an account now
abbrev pub balances : Machine → ℕ → Balances
balances m account = balances_in m account

abbrev pub sums : ℕ → ℕ → ℕ → ℕ → Balances
sums dp dd cp cc = record { debits = record { pending = dp; posted = dd }; credits = record { pending = cp; posted = cc } }

-- the amount that is stored of a transfer
abbrev pub stored_amount : Machine → ℕ → Option ℕ
stored_amount m id = option_map (λ t. t.amount) (transfer_with id m.transfers)

-- the base: accounts 1 to 4 of ledger 7 and code 10, of which 3 keeps history and limits its debits
abbrev pub base_batch : List AccountEvent
base_batch = account_event 1 0 ∷ account_event 2 0 ∷ account_event 3 10 ∷ account_event 4 0 ∷ []

abbrev pub base : Machine
base = after_accounts new_machine base_batch 0
