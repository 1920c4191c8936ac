use Rattle.std.proofs.Common.{ℕ, map, refl, sym, ◌∙◌}
use Rattle.std.specs.List.Sorted.{IsPermutation}
use Rattle.records.specs.declared.facts.AccountWithBalances.{AccountWithBalances}
use Rattle.records.specs.Machine.{Machine}
use Rattle.rows.specs.declared.balance_row.BalanceRow.{BalanceRow}
use Rattle.rows.specs.Prescribed.{balance_rows}
use Rattle.rows.specs.Tables.{IsAscendingBy}
use Rattle.running.specs.Running.{IsRunning}
use Rattle.running.proofs.SameByKey.{same_by_key}
use Rattle.running.proofs.ToldRows.{told, told_in_order, told_ok, balances_apart, balances_told}
use Rattle.running.proofs.running.Running.balance_rows.Goals as goal

-- the row of an entry of the map
abbrev row_of : ℕ × AccountWithBalances → BalanceRow
row_of entry = record { account = entry.0; balances = entry.1.balances }

abbrev account_of : BalanceRow → ℕ
account_of row = row.account

pub returns-clause-in_order : goal.returns-clause-in_order
returns-clause-in_order c =
    let entries = c.args.self.now.accounts.entries in
    told_ok c.balances.result (λ v. v.items) (map row_of entries) (λ xs. IsAscendingBy account_of xs) c.balances.ensures.rows (told_in_order account_of row_of (λ entry. refl) entries c.balances.ensures.in_order)

pub returns-clause-all : goal.returns-clause-all
returns-clause-all c =
    let entries = c.args.self.now.accounts.entries in
    told_ok c.balances.result (λ v. v.items) (map row_of entries) (λ xs. (m : Machine) → IsRunning m c.args.self.now → IsPermutation (balance_rows m) xs) c.balances.ensures.rows
    (λ m running. same_by_key account_of (balance_rows m) (map row_of entries) (balances_apart m running.valid) (told_in_order account_of row_of (λ entry. refl) entries c.balances.ensures.in_order)
    (λ id. sym (told account_of row_of (λ entry. refl) id entries ∙ balances_told m c.args.self.now id running)))
