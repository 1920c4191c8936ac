-- What each map holds: the rows of a table under their keys.
use Rattle.std.specs.Prelude.{◌≡◌, ℕ, ◌<◌, Bool, false, ◌==◌, ◌&&◌, List, length, slice_get, Option, Some, None, IfSome}
use Rattle.std.specs.Option.{option_and_then}
use Rattle.std.specs.BTreeMap as tree
use Rattle.std.specs.BTreeSet as sorted
use Rattle.std.specs.Ordering.{nat_cmp, ordering_then}
use Rattle.std.specs.declared.cmp.Ordering.{Ordering}
use Rattle.records.specs.declared.account.Account.{Account}
use Rattle.records.specs.declared.balances.Balances.{Balances}
use Rattle.records.specs.declared.facts.AccountWithBalances.{AccountWithBalances}
use Rattle.records.specs.declared.transfer.Transfer.{Transfer}
use Rattle.records.specs.Machine.{account_with, transfer_with}
use Rattle.records.specs.Fate.{is_open}
use Rattle.rows.specs.declared.balance_row.BalanceRow.{BalanceRow}
use Rattle.rows.specs.declared.status_row.StatusRow.{StatusRow}
use Rattle.rows.specs.Keyed.{row_with}
use Rattle.rows.specs.SameRows.{account_from}
use Rattle.running.specs.declared.statuses.Statuses.{Statuses}
use Rattle.running.specs.declared.transfers.Transfers.{Transfers}

-- the balance row of an account
abbrev pub balance_with : ℕ → List BalanceRow → Option BalanceRow
balance_with id rows = row_with (λ row. row.account) id rows

-- the status row of a transfer
abbrev pub status_with : ℕ → List StatusRow → Option StatusRow
status_with id rows = row_with (λ row. row.transfer) id rows

-- each account that has a balance row is there with its balances
abbrev pub HoldsAccounts :
    List Account → List BalanceRow → tree.BTreeMap ℕ AccountWithBalances → Type 0
HoldsAccounts accounts balances map =
    (id : ℕ) →
    tree.get nat_cmp map id ≡ account_from (account_with id accounts) (balance_with id balances)

-- an account is there with these balances
abbrev pub HasBalances : tree.BTreeMap ℕ AccountWithBalances → ℕ → Balances → Type 0
HasBalances map id balances =
    (account : Account)
    × (tree.get nat_cmp map id ≡ Some (record { account = account; balances = balances }))

-- the list has the transfers in order of entry, and the map the place of each by its id
pub record HoldsTransfers (transfers : List Transfer) (t : Transfers) : Type 0 where
  pub list : t.list.items ≡ transfers
  pub found :
      (id : ℕ) →
      option_and_then (slice_get transfers) (tree.get nat_cmp t.places id)
      ≡ transfer_with id transfers
  pub within :
      (id : ℕ) → IfSome (tree.get nat_cmp t.places id) (λ place. place < length transfers)

-- how due times are ordered: by the time, and then by the transfer
abbrev pub key_cmp : ℕ × ℕ → ℕ × ℕ → Ordering
key_cmp x y = ordering_then (nat_cmp x.0 y.0) (nat_cmp x.1 y.1)

-- whether a due time is there, and is this one
abbrev pub is_time : Option ℕ → ℕ → Bool
is_time None time = false
is_time (Some due) time = due == time

-- whether a transfer is open, and expires at this time
abbrev pub waits_until : ℕ → Option StatusRow → Bool
waits_until time None = false
waits_until time (Some row) = is_open row.state && is_time row.due time

-- each status row is there, and the due times are those of the open transfers
pub record HoldsStatuses (rows : List StatusRow) (s : Statuses) : Type 0 where
  pub found : (id : ℕ) → tree.get nat_cmp s.rows id ≡ status_with id rows
  pub due :
      (key : ℕ × ℕ) →
      sorted.contains key_cmp s.due key ≡ waits_until key.0 (status_with key.1 rows)
