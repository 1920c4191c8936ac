-- What one step of a machine changes in its rows.
use Rattle.std.specs.Prelude.{ℕ, List, [], ◌∷◌, ◌++◌, Option, Some, None, if◌then◌else◌}
use Rattle.records.specs.declared.account.Account.{Account}
use Rattle.records.specs.declared.transfer.Transfer.{Transfer}
use Rattle.records.specs.declared.side.Side.TheVariants.{Debit, Credit}
use Rattle.records.specs.declared.balances.Balances.{Balances}
use Rattle.records.specs.declared.facts.PendingState.{PendingState}
use Rattle.records.specs.declared.facts.PendingState.TheVariants as state
use Rattle.records.specs.declared.accepted.Accepted.{Accepted}
use Rattle.records.specs.declared.accepted.Ending.{Ending}
use Rattle.records.specs.declared.accepted.Ending.TheVariants.{Posted, Voided}
use Rattle.records.specs.Flags.{is_pending}
use Rattle.records.specs.Machine.{with_id}
use Rattle.records.specs.Due.{due_of}
use Rattle.engine.specs.After.{balances_released}
use Rattle.rows.specs.declared.balance_row.BalanceRow.{BalanceRow}
use Rattle.rows.specs.declared.status_row.StatusRow.{StatusRow}
use Rattle.rows.specs.declared.history_row.HistoryRow.{HistoryRow}
use Rattle.rows.specs.TypedRows.{TypedRows}
use Rattle.rows.specs.Keyed.{changed}

-- the balance rows, with the balances of one account set
abbrev pub set_balances : ℕ → Balances → List BalanceRow → List BalanceRow
set_balances account balances rows =
    changed (λ row. row.account) account (λ row. record row { balances = balances }) rows

-- the status rows, with the state of one transfer set
abbrev pub set_state : ℕ → PendingState → List StatusRow → List StatusRow
set_state transfer state rows =
    changed (λ row. row.transfer) transfer (λ row. record row { state = state }) rows

-- the balances of an account without transfers
abbrev pub no_balances : Balances
no_balances = record {
  debits = record { pending = 0; posted = 0 };
  credits = record { pending = 0; posted = 0 };
}

-- the balance row of a new account
abbrev pub new_balance : Account → BalanceRow
new_balance account = record { account = account.id; balances = no_balances }

-- an account is opened
unfoldable pub with_opened : Account → TypedRows → TypedRows
with_opened account rows = record rows {
  accounts = rows.accounts ++ account ∷ [];
  balances = rows.balances ++ new_balance account ∷ [];
}

-- the status of a new transfer, where it is a pending one
abbrev pub new_statuses : Transfer → List StatusRow
new_statuses transfer =
    if is_pending transfer.flags
    then record { transfer = transfer.id; state = state.Open; due = due_of transfer } ∷ []
    else []

-- the status rows, with the transfer that is ended
abbrev pub ended : Option Ending → List StatusRow → List StatusRow
ended None rows = rows
ended (Some (Posted transfer)) rows = set_state transfer state.Posted rows
ended (Some (Voided transfer)) rows = set_state transfer state.Voided rows

-- the history rows of an accepted transfer: of its debit account and of its credit account
abbrev pub new_history : Accepted → List HistoryRow
new_history accepted =
    record {
      account = accepted.stored.debit_account_id;
      timestamp = accepted.stored.timestamp;
      balances = accepted.debit_after;
    }
    ∷ record {
      account = accepted.stored.credit_account_id;
      timestamp = accepted.stored.timestamp;
      balances = accepted.credit_after;
    }
    ∷ []

-- the balance rows, with the balances of a transfer's two accounts set
abbrev pub set_both : Transfer → Balances → Balances → List BalanceRow → List BalanceRow
set_both transfer debit credit rows =
    set_balances transfer.credit_account_id credit
    (set_balances transfer.debit_account_id debit rows)

-- a transfer is accepted: with its balances, with what it ends, and with its own status and history
unfoldable pub with_accepted : Accepted → TypedRows → TypedRows
with_accepted accepted rows = record rows {
  transfers = rows.transfers ++ accepted.stored ∷ [];
  balances = set_both accepted.stored accepted.debit_after accepted.credit_after rows.balances;
  statuses = ended accepted.ends rows.statuses ++ new_statuses accepted.stored;
  history = rows.history ++ new_history accepted;
}

-- a pending transfer expires: its two accounts, which had these balances, lose its amount
unfoldable pub with_expired : Transfer → Balances → Balances → TypedRows → TypedRows
with_expired transfer debit credit rows = record rows {
  balances =
      set_both transfer (balances_released Debit debit transfer.amount)
      (balances_released Credit credit transfer.amount) rows.balances;
  statuses = set_state transfer.id state.Expired rows.statuses;
}

-- an id has failed for good
unfoldable pub with_failed_id : ℕ → TypedRows → TypedRows
with_failed_id id rows = record rows { failed = with_id id rows.failed }
