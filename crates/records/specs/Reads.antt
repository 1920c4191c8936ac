-- What a tenant can ask for: plain filters of its lists, judged at its clock.
use Rattle.std.specs.Prelude.{ℕ, Bool, ◌&&◌, ◌||◌, ◌==◌, nat_le, if◌then◌else◌, Option, Some, None}
use Rattle.std.specs.Prelude.{List, [], ◌∷◌, ◌++◌, map, filter, reverse, take}
use Rattle.std.specs.List.{filter_map}
use Rattle.records.specs.declared.account.Account.{Account}
use Rattle.records.specs.declared.transfer.Transfer.{Transfer}
use Rattle.records.specs.declared.transfer_flags.TransferFlags.{TransferFlags}
use Rattle.records.specs.declared.balances.Balances.{Balances}
use Rattle.records.specs.declared.balances.BalanceAt.{BalanceAt}
use Rattle.records.specs.declared.facts.AccountWithBalances.{AccountWithBalances}
use Rattle.records.specs.declared.filter.AccountFilter.{AccountFilter}
use Rattle.records.specs.declared.filter.Order.{Order}
use Rattle.records.specs.declared.filter.Order.TheVariants.{Oldest, Newest}
use Rattle.records.specs.declared.statement_row.StatementRow.{StatementRow}
use Rattle.records.specs.declared.side.Side.{Side}
use Rattle.records.specs.declared.side.Side.TheVariants.{Debit, Credit}
use Rattle.records.specs.declared.statement_row.Kind.{Kind}
use Rattle.records.specs.declared.statement_row.Kind.TheVariants.{Single, Pending, Post, Void}
use Rattle.records.specs.Flags.{has_bit, is_pending, is_post, is_void, keeps_history}
use Rattle.records.specs.Machine.{Machine, account_with, transfer_with}
use Rattle.records.specs.Sides.{account_on}
use Rattle.records.specs.Facts.{account_in}
use Rattle.records.specs.Balances.{balances_of}

-- the accounts with these ids, in the order asked; an id asked twice is answered twice
abbrev pub found_accounts : Machine → List ℕ → List AccountWithBalances
found_accounts m ids = filter_map (account_in m) ids

-- the transfers with these ids, likewise
abbrev pub found_transfers : Machine → List ℕ → List Transfer
found_transfers m ids = filter_map (λ id. transfer_with id m.transfers) ids

-- whether an entry has an account on this side
abbrev pub is_entry_on : Side → ℕ → Transfer → Bool
is_entry_on side account entry = account_on side entry == account

-- whether a filter asks for an entry by its side: bit 0 asks for debits, bit 1 for credits
abbrev pub asks_side : AccountFilter → Transfer → Bool
asks_side asked entry =
    (has_bit asked.flags.0 0 && is_entry_on Debit asked.account_id entry)
    || (has_bit asked.flags.0 1 && is_entry_on Credit asked.account_id entry)

-- whether it asks for it by its time: both bounds are inclusive, and 0 is no bound
abbrev pub asks_time : AccountFilter → Transfer → Bool
asks_time asked entry =
    nat_le asked.timestamp_min entry.timestamp
    && ((asked.timestamp_max == 0) || nat_le entry.timestamp asked.timestamp_max)

-- whether a filter asks for an entry
abbrev pub is_chosen : AccountFilter → Transfer → Bool
is_chosen asked entry = asks_side asked entry && asks_time asked entry

-- what a filter shows of all that it asks for: bit 2 turns the order, and then the limit cuts
abbrev pub page_of : {A : Type 0} → AccountFilter → List A → List A
page_of asked entries =
    take asked.limit (if has_bit asked.flags.0 2 then reverse entries else entries)

-- the transfers that a filter asks for
abbrev pub history_of : Machine → AccountFilter → List Transfer
history_of m asked = page_of asked (filter (is_chosen asked) m.transfers)

-- an entry with the entries up to it, itself included
pub record Entry : Type 0 where
  pub before : List Transfer
  pub transfer : Transfer

-- the entries of a list, behind those before it
abbrev pub entries_after : List Transfer → List Transfer → List Entry
entries_after before [] = []
entries_after before (entry ∷ entries) =
    record { before = before ++ entry ∷ []; transfer = entry }
    ∷ entries_after (before ++ entry ∷ []) entries

-- the machine's entries
abbrev pub entries_of : Machine → List Entry
entries_of m = entries_after [] m.transfers

-- the account's balances after an entry: its sums up to there, with expiry judged at the clock of
-- the entry's batch
abbrev pub balance_after : ℕ → Entry → Balances
balance_after account entry = balances_of entry.before entry.transfer.at account

-- the same with the entry's timestamp
abbrev pub balance_at : ℕ → Entry → BalanceAt
balance_at account entry =
    record { timestamp = entry.transfer.timestamp; balances = balance_after account entry }

-- the balances after each transfer that a filter asks for
abbrev pub history_balances_of : Machine → AccountFilter → List BalanceAt
history_balances_of m asked =
    page_of asked
    (map (balance_at asked.account_id)
    (filter (λ entry. is_chosen asked entry.transfer) (entries_of m)))

-- what kind of transfer an entry is
abbrev pub kind_of : TransferFlags → Kind
kind_of flags =
    if is_post flags then Post
    else if is_void flags then Void
    else if is_pending flags then Pending
    else Single

-- the side on which an entry has the account
abbrev pub side_of : ℕ → Transfer → Side
side_of account entry = if is_entry_on Debit account entry then Debit else Credit

-- whether an entry has the account on either side
abbrev pub is_entry_of : ℕ → Transfer → Bool
is_entry_of account entry = is_entry_on Debit account entry || is_entry_on Credit account entry

-- an entry's line in the account's statement
abbrev pub statement_row : ℕ → Entry → StatementRow
statement_row account entry = record {
  timestamp = entry.transfer.timestamp;
  transfer_id = entry.transfer.id;
  side = side_of account entry.transfer;
  kind = kind_of entry.transfer.flags;
  amount = entry.transfer.amount;
  balances = balance_after account entry;
}

-- the account's entries, oldest first
abbrev pub statement_of : Machine → ℕ → List StatementRow
statement_of m account =
    map (statement_row account)
    (filter (λ entry. is_entry_of account entry.transfer) (entries_of m))

-- a list that is oldest first, in the order asked
abbrev pub in_order : {A : Type 0} → Order → List A → List A
in_order Oldest entries = entries
in_order Newest entries = reverse entries

-- what a question about an account is told: that the account is not there, that it keeps no
-- history, or its answer
pub data AccountAnswer (A : Type 0) : Type 0 where
  NoAccount : AccountAnswer A
  NoHistory : AccountAnswer A
  Found : A → AccountAnswer A

-- an answer of any account that is there
abbrev pub answer_by : {A : Type 0} → Option Account → A → AccountAnswer A
answer_by None found = NoAccount
answer_by (Some account) found = Found found

-- an answer that takes an account with the history flag
abbrev pub answer_by_history : {A : Type 0} → Option Account → A → AccountAnswer A
answer_by_history None found = NoAccount
answer_by_history (Some account) found =
    if keeps_history account.flags then Found found else NoHistory

-- what a filter is told of the transfers that it asks for
abbrev pub history_answer : Machine → AccountFilter → AccountAnswer (List Transfer)
history_answer m asked = answer_by (account_with asked.account_id m.accounts) (history_of m asked)

-- and of the balances after them
abbrev pub history_balances_answer : Machine → AccountFilter → AccountAnswer (List BalanceAt)
history_balances_answer m asked =
    answer_by_history (account_with asked.account_id m.accounts) (history_balances_of m asked)

-- what a statement of the account, in this order, is told
abbrev pub statement_answer : Machine → ℕ → Order → AccountAnswer (List StatementRow)
statement_answer m account order =
    answer_by (account_with account m.accounts) (in_order order (statement_of m account))
