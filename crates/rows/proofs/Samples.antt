-- What the worked examples are written in: batches, the base machine, and rows.
use Rattle.std.specs.Prelude.{◌≡◌, ℕ, List, [], ◌∷◌, Option}
use Rattle.records.specs.declared.account.Account.{Account}
use Rattle.records.specs.declared.transfer.TransferEvent.{TransferEvent}
use Rattle.records.specs.declared.balances.Balances.{Balances}
use Rattle.records.specs.declared.facts.PendingState.{PendingState}
use Rattle.records.specs.Machine.{Machine, new_machine}
use Rattle.records.specs.Step.{account_rules, transfer_rules, step_machine}
use Rattle.rows.specs.declared.balance_row.BalanceRow.{BalanceRow}
use Rattle.rows.specs.declared.status_row.StatusRow.{StatusRow}
use Rattle.rows.specs.declared.history_row.HistoryRow.{HistoryRow}
use Rattle.rows.specs.TypedRows.{TypedRows}
use Rattle.rows.specs.Prescribed.{rows_for}
use Rattle.samples.specs.Events.{account, opened_account, transfer, with}

-- a transfer with these flags, of ledger 7 and code 1
abbrev pub transfer_event : ℕ → ℕ → ℕ → ℕ → ℕ → TransferEvent
transfer_event id debit credit amount flags = with flags (transfer id debit credit amount)

-- the base: accounts 1 to 4 of ledger 7 and code 10, of which 3 keeps history and limits its debits
abbrev pub base : Machine
base =
    step_machine account_rules new_machine
    (account 1 0 ∷ account 2 0 ∷ account 3 10 ∷ account 4 0 ∷ []) 0

-- the base after batches of transfers, at these moments
abbrev pub after : Machine → List TransferEvent → ℕ → Machine
after m batch moment = step_machine transfer_rules m batch moment

abbrev pub base_accounts : List Account
base_accounts =
    opened_account 1 0 1 ∷ opened_account 2 0 2 ∷ opened_account 3 10 3 ∷ opened_account 4 0 4 ∷ []

abbrev pub balance : ℕ → Balances → BalanceRow
balance account balances = record { account = account; balances = balances }

abbrev pub status : ℕ → PendingState → Option ℕ → StatusRow
status transfer state due = record { transfer = transfer; state = state; due = due }

abbrev pub history : ℕ → ℕ → Balances → HistoryRow
history account timestamp balances =
    record { account = account; timestamp = timestamp; balances = balances }

-- a machine has these rows in the current version, and in the older ones those that they know of
pub record HasRows (m : Machine) (rows : TypedRows) : Type 0 where
  pub third : rows_for 3 m ≡ rows
  pub second : rows_for 2 m ≡ record rows { failed = [] }
  pub first : rows_for 1 m ≡ record rows { balances = []; statuses = []; history = []; failed = [] }
