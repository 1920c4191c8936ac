-- What prescribed rows tell of a machine.
use Rattle.std.proofs.Common.{◌≡◌, ℕ, ◌==◌, Bool, true, List, [], ◌∷◌, map, Some, refl, sym, ap, ◌∙◌, arith, inl, inr}
use Rattle.std.specs.List.{find}
use Rattle.std.specs.Option.{option_map}
use Rattle.std.proofs.lemmas.List.Sorted.{IsPermutation-refl}
use Rattle.std.proofs.lemmas.Bool.{cases_Bool}
use Rattle.std.proofs.lemmas.Bool.Decides.{nat_tests}
use Rattle.records.specs.declared.account.Account.{Account}
use Rattle.records.specs.declared.balances.Balances.{Balances}
use Rattle.records.specs.Machine.{Machine, account_with}
use Rattle.records.specs.Balances.{balances_in}
use Rattle.records.specs.Facts.{account_in, with_balances}
use Rattle.rows.specs.declared.balance_row.BalanceRow.{BalanceRow}
use Rattle.rows.specs.TypedRows.{TypedRows}
use Rattle.rows.specs.Keyed.{row_with}
use Rattle.rows.specs.Prescribed.{rows_for, balance_row}
use Rattle.rows.specs.SameRows.{AreSameRows}

pub same_themselves : (rows : TypedRows) → AreSameRows rows rows
same_themselves rows = record {
  clock = refl;
  accounts = IsPermutation-refl _;
  transfers = IsPermutation-refl _;
  balances = IsPermutation-refl _;
  statuses = IsPermutation-refl _;
  history = IsPermutation-refl _;
  failed = IsPermutation-refl _;
}

-- what is found passes
found_passes : {X : Type 0} (p : X → Bool) (xs : List X) (x : X) → find p xs ≡ Some x → p x ≡ true
found_passes p [] x found = absurd (cc)
found_passes p (y ∷ ys) x found = elim (cases_Bool (p y)) [
  | inl is ↦ let e : y ≡ x = (let h = rw is at found in cc) in rw (← e) is
  | inr other ↦ found_passes p ys x (rw other at found)
]

in_rows : (m : Machine) (id : ℕ) (accounts : List Account) (row : BalanceRow) → row_with (λ r. r.account) id (map (balance_row m) accounts) ≡ Some row → row.balances ≡ balances_in m id
in_rows m id [] row found = absurd (cc)
in_rows m id (a ∷ accounts) row found = elim (cases_Bool (a.id == id)) [
  | inl is ↦
      let here : balance_row m a ≡ row = (let h = rw is at found in cc) in
      let same : a.id ≡ id = grind (arith, nat_tests) in
      ap (λ (r : BalanceRow). r.balances) (sym here) ∙ ap (balances_in m) same
  | inr other ↦ in_rows m id accounts row (rw other at found)
]

-- a balance row has the balances of its account
pub balances_told : (m : Machine) (id : ℕ) (row : BalanceRow) → row_with (λ r. r.account) id (rows_for 3 m).balances ≡ Some row → row.balances ≡ balances_in m id
unfolding rows_for
balances_told m id row found = in_rows m id m.accounts row found

-- an account that is found has the id
pub account_told : (id : ℕ) (accounts : List Account) (account : Account) → account_with id accounts ≡ Some account → account.id ≡ id
account_told id accounts account found = let h = found_passes (λ (a : Account). a.id == id) accounts account found in grind (arith, nat_tests)

-- an account and its balances, each found by the id, are what the machine has under it
pub account_paired : (m : Machine) (id : ℕ) (account : Account) (balances : Balances) → account_with id m.accounts ≡ Some account → balances ≡ balances_in m id
    → Some (record { account = account; balances = balances }) ≡ account_in m id
account_paired m id account balances found is =
    let own : account.id ≡ id = account_told id m.accounts account found in
    ap (λ b. Some (record { account = account; balances = b })) (is ∙ ap (balances_in m) (sym own)) ∙ ap (option_map (with_balances m)) (sym found)
