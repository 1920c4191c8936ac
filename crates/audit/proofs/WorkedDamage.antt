-- The table of damage for a worked example, computed by the definitions themselves: 40 of a pending 100 is posted, and
-- then one value is changed.
use Rattle.std.specs.Prelude.{◌≡◌, ◌≤◌, ℕ, List, [], ◌∷◌, map, Option, None, refl}
use Rattle.std.proofs.Common.{get_or, inr, ap, arith}
use Rattle.std.specs.Option.{option_map_or}
use Rattle.amount.specs.Column.{column_of}
use Rattle.records.specs.declared.account.Account.{Account}
use Rattle.records.specs.declared.transfer.Transfer.{Transfer}
use Rattle.records.specs.declared.balances.Balances.{Balances}
use Rattle.records.specs.declared.facts.PendingState.TheVariants.{Posted}
use Rattle.rows.specs.declared.balance_row.BalanceRow.{BalanceRow}
use Rattle.rows.specs.declared.status_row.StatusRow.{StatusRow}
use Rattle.rows.specs.declared.history_row.HistoryRow.{HistoryRow}
use Rattle.rows.specs.declared.balance_cells.BalanceCells.{BalanceCells}
use Rattle.rows.specs.Cells.{balance_cells}
use Rattle.rows.specs.Prescribed.{rows_for}
use Rattle.rows.specs.Tables.{history_key}
use Rattle.rows.specs.TypedRows.{TypedRows}
use Rattle.running.specs.declared.entry.Entry.TheVariants.{Opened, Moved}
use Rattle.samples.specs.Events.{accepted_transfer, opened_account as account, balances as sums}
use Rattle.audit.specs.Order.{in_order, Differ}
use Rattle.audit.specs.Table.{IsBadTime, IsBadFailed}
use Rattle.audit.specs.Told.{entries_told, machine_told, prescribed}

abbrev transfer : ℕ → ℕ → ℕ → ℕ → ℕ → Transfer
transfer id pending amount flags timestamp = accepted_transfer id pending amount flags timestamp 7

abbrev balance : ℕ → Balances → BalanceRow
balance account balances = record { account = account; balances = balances }

abbrev history : ℕ → ℕ → Balances → HistoryRow
history account timestamp balances = record { account = account; timestamp = timestamp; balances = balances }

-- the accounts are 4, 3, 1 and 2 in the order of the list, so that order matters
abbrev accounts : List Account
accounts = account 4 0 4 ∷ account 3 10 3 ∷ account 1 0 1 ∷ account 2 0 2 ∷ []

-- with this timestamp of the post, this clock and these failed ids
abbrev told : ℕ → ℕ → List ℕ → TypedRows
told timestamp clock failed = record {
  clock = clock;
  accounts = accounts;
  transfers = transfer 100 0 100 2 5 ∷ transfer 101 100 40 4 timestamp ∷ [];
  balances = [];
  statuses = [];
  history = [];
  failed = failed;
}

-- the entries stand in order of time, and lead to the ledger at its clock
pub entries_in_order : entries_told (told 6 7 []) ≡ Opened (account 1 0 1) ∷ Opened (account 2 0 2) ∷ Opened (account 3 10 3) ∷ Opened (account 4 0 4) ∷ Moved (transfer 100 0 100 2 5) ∷ Moved (transfer 101 100 40 4 6) ∷ []
entries_in_order = refl

pub clock_reached : (machine_told (told 6 8 [])).clock ≡ 8
clock_reached = refl

-- a clock behind the entries is taken for the one that they reach
pub clock_behind : (machine_told (told 6 3 [])).clock ≡ 7
clock_behind = refl

-- derived rows in order of key
abbrev right_balances : List BalanceRow
right_balances = balance 1 (sums 0 40 0 0) ∷ balance 2 (sums 0 0 0 40) ∷ balance 3 (sums 0 0 0 0) ∷ balance 4 (sums 0 0 0 0) ∷ []

pub balances_in_order : in_order (λ (row : BalanceRow). row.account) (prescribed 3 (told 6 7 [])).balances ≡ right_balances
unfolding rows_for
balances_in_order = refl

pub history_in_order : in_order history_key (prescribed 2 (told 6 7 [])).history ≡ history 1 5 (sums 100 0 0 0) ∷ history 1 6 (sums 0 40 0 0) ∷ history 2 5 (sums 0 0 100 0) ∷ history 2 6 (sums 0 0 0 40) ∷ []
unfolding rows_for
history_in_order = refl

pub states_in_order : in_order (λ (row : StatusRow). row.transfer) (prescribed 3 (told 6 7 [])).statuses ≡ record { transfer = 100; state = Posted; due = None } ∷ []
unfolding rows_for
states_in_order = refl

pub none_in_the_first_version : (prescribed 1 (told 6 7 [])).balances ≡ []
unfolding rows_for
none_in_the_first_version = refl

-- the last byte of what is debited
abbrev debited : Option BalanceCells → ℕ
debited found = option_map_or (λ (cells : BalanceCells). get_or cells.dd 15 0) found 0

-- 41 debited to account 1: the balances are wrong at place 0
pub balance_changed : Differ (map balance_cells (balance 1 (sums 0 41 0 0) ∷ balance 2 (sums 0 0 0 40) ∷ balance 3 (sums 0 0 0 0) ∷ balance 4 (sums 0 0 0 0) ∷ [])) (map balance_cells right_balances) 0
unfolding column_of
balance_changed same = let e : 41 ≡ 40 = ap debited same in omega (arith, e)

-- the post at the timestamp of account 4: the timestamps are wrong at the place of the post
pub timestamp_changed : IsBadTime (told 4 7 []) 1
timestamp_changed = inr (λ own. let once : 2 ≤ 1 = own.once in omega (arith, once))

-- the post failed too: the failed ids are wrong at place 0
pub failed_id_added : IsBadFailed 3 (machine_told (told 6 7 (101 ∷ []))) (101 ∷ []) 0
failed_id_added = λ good. let none = good.apart.unknown in absurd cc
