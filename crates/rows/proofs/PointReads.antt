-- What the rows of one id tell, in any order.
use Rattle.std.proofs.Common.{◌≡◌, ℕ, Bool, true, false, eqb, cond, List, [], ◌∷◌, map, Option, Some, None, refl, sym, ap, ap₂, ◌∙◌, subst}
use Rattle.std.specs.List.{filter}
use Rattle.std.specs.Option.{option_map, option_and_then}
use Rattle.std.proofs.lemmas.Bool.{cond-true, cond-false, eqb-true}
use Rattle.std.proofs.lemmas.List.Sorted.{list_any-IsPermutation}
use Rattle.records.specs.declared.account.Account.{Account}
use Rattle.records.specs.declared.transfer.Transfer.{Transfer}
use Rattle.records.specs.Flags.{is_pending}
use Rattle.records.specs.Machine.{Machine, account_with, transfer_with}
use Rattle.records.specs.Facts.{with_balances, state_in}
use Rattle.records.specs.Fate.{fate_of}
use Rattle.engine.proofs.ValidMachineLemmas.{with_key, AreDistinct, IsSound}
use Rattle.rows.specs.declared.balance_row.BalanceRow.{BalanceRow}
use Rattle.rows.specs.declared.status_row.StatusRow.{StatusRow}
use Rattle.rows.specs.TypedRows.{TypedRows}
use Rattle.rows.specs.Prescribed.{rows_for, balance_row, balance_rows, status_row, status_rows}
use Rattle.rows.specs.SameRows.{AreSameRows, account_from, TellsOf}
use Rattle.rows.proofs.RowLists.{row_with-map}
use Rattle.rows.proofs.AnyOrder.{same_row}

abbrev account_id : Account → ℕ
account_id a = a.id

abbrev transfer_id : Transfer → ℕ
transfer_id t = t.id

-- distinct keys of what is made of elements, and of those that pass a test
pub distinct-map : {A B : Type 0} (key : B → ℕ) (f : A → B) (xs : List A) → AreDistinct (λ x. key (f x)) xs → AreDistinct key (map f xs)
distinct-map key f [] d = tt
distinct-map key f (x ∷ xs) d = (row_with-map key (key (f x)) f xs ∙ ap (option_map f) d.0, distinct-map key f xs d.1)

-- an element that is found and passes
abbrev if_passes : {A : Type 0} → (A → Bool) → Option A → Option A
if_passes p None = None
if_passes p (Some x) = cond (p x) (Some x) None

filter_kept : {A : Type 0} (here passes : Bool) (p : A → Bool) (x : A) (found found_kept : Option A) → p x ≡ passes → (here ≡ true → found ≡ None) → found_kept ≡ if_passes p found → cond passes (cond here (Some x) found_kept) found_kept ≡ if_passes p (cond here (Some x) found)
filter_kept true true p x found found_kept is none kept = sym (cond-true (p x) (Some x) None is)
filter_kept true false p x found found_kept is none kept = kept ∙ ap (if_passes p) (none refl) ∙ sym (cond-false (p x) (Some x) None is)
filter_kept false true p x found found_kept is none kept = kept
filter_kept false false p x found found_kept is none kept = kept

find_cond : {A : Type 0} (key : A → ℕ) (id : ℕ) (passes : Bool) (x : A) (kept : List A) → with_key key id (cond passes (x ∷ kept) kept) ≡ cond passes (cond (eqb (key x) id) (Some x) (with_key key id kept)) (with_key key id kept)
find_cond key id true x kept = refl
find_cond key id false x kept = refl

find_filter : {A : Type 0} (key : A → ℕ) (p : A → Bool) (id : ℕ) (xs : List A) → AreDistinct key xs → with_key key id (filter p xs) ≡ if_passes p (with_key key id xs)
find_filter key p id [] d = refl
find_filter key p id (x ∷ xs) d =
    find_cond key id (p x) x (filter p xs)
    ∙ filter_kept (eqb (key x) id) (p x) p x (with_key key id xs) (with_key key id (filter p xs)) refl
    (λ here. subst (λ k. with_key key k xs ≡ None) (eqb-true (key x) id here) d.0) (find_filter key p id xs d.1)

distinct_cond : {A : Type 0} (key : A → ℕ) (passes : Bool) (x : A) (kept : List A) → with_key key (key x) kept ≡ None → AreDistinct key kept → AreDistinct key (cond passes (x ∷ kept) kept)
distinct_cond key true x kept none d = (none, d)
distinct_cond key false x kept none d = d

pub distinct-filter : {A : Type 0} (key : A → ℕ) (p : A → Bool) (xs : List A) → AreDistinct key xs → AreDistinct key (filter p xs)
distinct-filter key p [] d = tt
distinct-filter key p (x ∷ xs) d = distinct_cond key (p x) x (filter p xs) (find_filter key p (key x) xs d.1 ∙ ap (if_passes p) d.0) (distinct-filter key p xs d.1)

pub balances_distinct : (m : Machine) → IsSound m → AreDistinct (λ (row : BalanceRow). row.account) (balance_rows m)
balances_distinct m s = distinct-map (λ (row : BalanceRow). row.account) (balance_row m) m.accounts s.accounts

pub statuses_distinct : (m : Machine) → IsSound m → AreDistinct (λ (row : StatusRow). row.transfer) (status_rows m)
statuses_distinct m s =
    let pends = λ (t : Transfer). is_pending t.flags in
    distinct-map (λ (row : StatusRow). row.transfer) (status_row m) (filter pends m.transfers) (distinct-filter transfer_id pends m.transfers s.transfers)

-- an account with its balance row
account_told : (m : Machine) (found : Option Account) → account_from found (option_map (balance_row m) found) ≡ option_map (with_balances m) found
account_told m None = refl
account_told m (Some a) = refl

-- a pending transfer with its status row
state_at : (m : Machine) (t : Transfer) (pends : Bool) → option_map (λ (row : StatusRow). row.state) (option_map (status_row m) (cond pends (Some t) None)) ≡ cond pends (Some (fate_of m.transfers m.clock t)) None
state_at m t true = refl
state_at m t false = refl

state_told : (m : Machine) (found : Option Transfer) → option_map (λ (row : StatusRow). row.state) (option_map (status_row m) (if_passes (λ t. is_pending t.flags) found)) ≡ option_and_then (state_in m) found
state_told m None = refl
state_told m (Some t) = state_at m t (is_pending t.flags)

pub tells : (m : Machine) (rows : TypedRows) (id : ℕ) → IsSound m → AreSameRows (rows_for 3 m) rows → TellsOf m rows id
unfolding rows_for
tells m rows id s same =
    let pends = λ (t : Transfer). is_pending t.flags in
    let balance = same_row (λ (row : BalanceRow). row.account) (balance_rows m) rows.balances id (balances_distinct m s) same.balances ∙ row_with-map (λ (row : BalanceRow). row.account) id (balance_row m) m.accounts in
    let status = same_row (λ (row : StatusRow). row.transfer) (status_rows m) rows.statuses id (statuses_distinct m s) same.statuses
    ∙ row_with-map (λ (row : StatusRow). row.transfer) id (status_row m) (filter pends m.transfers)
    ∙ ap (option_map (status_row m)) (find_filter transfer_id pends id m.transfers s.transfers) in
    record {
      account = ap₂ account_from (same_row account_id m.accounts rows.accounts id s.accounts same.accounts) balance ∙ account_told m (account_with id m.accounts);
      transfer = same_row transfer_id m.transfers rows.transfers id s.transfers same.transfers;
      state = ap (option_map (λ (row : StatusRow). row.state)) status ∙ state_told m (transfer_with id m.transfers);
      failed = sym (list_any-IsPermutation (λ (other : ℕ). eqb other id) m.failed rows.failed same.failed);
    }
