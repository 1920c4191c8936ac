-- Rows in any order, and what single rows tell.
use Rattle.std.specs.Prelude.{◌≡◌, ℕ, Option, Some, None, IsPermutation}
use Rattle.std.specs.Option.{option_map, option_and_then}
use Rattle.records.specs.declared.account.Account.{Account}
use Rattle.records.specs.declared.facts.AccountWithBalances.{AccountWithBalances}
use Rattle.records.specs.Machine.{Machine, has_id, account_with, transfer_with}
use Rattle.records.specs.Facts.{account_in, state_in}
use Rattle.rows.specs.declared.balance_row.BalanceRow.{BalanceRow}
use Rattle.rows.specs.TypedRows.{TypedRows}
use Rattle.rows.specs.Keyed.{row_with}

-- the same clock, and in each table the same rows in any order
pub record AreSameRows (xs ys : TypedRows) : Type 0 where
  pub clock : xs.clock ≡ ys.clock
  pub accounts : IsPermutation xs.accounts ys.accounts
  pub transfers : IsPermutation xs.transfers ys.transfers
  pub balances : IsPermutation xs.balances ys.balances
  pub statuses : IsPermutation xs.statuses ys.statuses
  pub history : IsPermutation xs.history ys.history
  pub failed : IsPermutation xs.failed ys.failed

-- an account with its balances, from its two rows
abbrev pub account_from : Option Account → Option BalanceRow → Option AccountWithBalances
account_from None balance = None
account_from (Some account) None = None
account_from (Some account) (Some row) =
    Some (record { account = account; balances = row.balances })

-- what the rows of one id tell is what the machine has under that id
pub record TellsOf (m : Machine) (rows : TypedRows) (id : ℕ) : Type 0 where
  pub account :
      account_from (account_with id rows.accounts)
      (row_with (λ row. row.account) id rows.balances)
      ≡ account_in m id
  pub transfer : transfer_with id rows.transfers ≡ transfer_with id m.transfers
  pub state :
      option_map (λ row. row.state) (row_with (λ row. row.transfer) id rows.statuses)
      ≡ option_and_then (state_in m) (transfer_with id m.transfers)
  pub failed : has_id id rows.failed ≡ has_id id m.failed
