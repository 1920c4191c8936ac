-- Changes of rows that stand in another order.
use Rattle.std.proofs.Common.{◌≡◌, ℕ, Bool, true, false, eqb, ltb, cond, List, [], ◌∷◌, ◌++◌, Option, Some, None, sym, ◌∙◌, subst}
use Rattle.std.specs.List.Sorted.{IsPermutation}
use Rattle.std.proofs.lemmas.List.Sorted.{IsPermutation-refl, IsPermutation-map, IsPermutation-cons, IsPermutation-append_left, IsPermutation-append_comm, IsPermutation-sym, IsPermutation-trans}
use Rattle.std.proofs.lemmas.Bool.{or_parts, cond-false}
use Rattle.records.specs.declared.account.Account.{Account}
use Rattle.records.specs.declared.transfer.Transfer.{Transfer}
use Rattle.records.specs.declared.balances.Balances.{Balances}
use Rattle.records.specs.declared.accepted.Accepted.{Accepted}
use Rattle.records.specs.declared.accepted.Ending.{Ending}
use Rattle.records.specs.declared.accepted.Ending.TheVariants.{Posted, Voided}
use Rattle.records.specs.declared.facts.PendingState.{PendingState}
use Rattle.records.specs.Machine.{has_id, with_id}
use Rattle.rows.specs.declared.balance_row.BalanceRow.{BalanceRow}
use Rattle.rows.specs.declared.status_row.StatusRow.{StatusRow}
use Rattle.rows.specs.TypedRows.{TypedRows}
use Rattle.rows.specs.Keyed.{changed}
use Rattle.rows.specs.Changes.{set_balances, set_state, set_both, new_balance, new_statuses, new_history, ended, with_opened, with_accepted, with_expired, with_failed_id}
use Rattle.rows.specs.SameRows.{AreSameRows}
use Rattle.rows.proofs.Permuted.{turned}
use Rattle.rows.proofs.NextFates.{eqb-sym}

pub same_changed : {A : Type 0} (key : A → ℕ) (id : ℕ) (change : A → A) (xs ys : List A) → IsPermutation xs ys → IsPermutation (changed key id change xs) (changed key id change ys)
same_changed key id change xs ys same = IsPermutation-map (λ row. cond (eqb (key row) id) (change row) row) xs ys same

same_balances : (account : ℕ) (balances : Balances) (xs ys : List BalanceRow) → IsPermutation xs ys → IsPermutation (set_balances account balances xs) (set_balances account balances ys)
same_balances account balances xs ys same = same_changed (λ (row : BalanceRow). row.account) account (λ row. record row { balances = balances }) xs ys same

same_both : (t : Transfer) (debit credit : Balances) (xs ys : List BalanceRow) → IsPermutation xs ys → IsPermutation (set_both t debit credit xs) (set_both t debit credit ys)
same_both t debit credit xs ys same =
    same_balances t.credit_account_id credit (set_balances t.debit_account_id debit xs) (set_balances t.debit_account_id debit ys) (same_balances t.debit_account_id debit xs ys same)

same_state : (transfer : ℕ) (state : PendingState) (xs ys : List StatusRow) → IsPermutation xs ys → IsPermutation (set_state transfer state xs) (set_state transfer state ys)
same_state transfer state xs ys same = same_changed (λ (row : StatusRow). row.transfer) transfer (λ row. record row { state = state }) xs ys same

same_ended : (ends : Option Ending) (xs ys : List StatusRow) → IsPermutation xs ys → IsPermutation (ended ends xs) (ended ends ys)
same_ended None xs ys same = same
same_ended (Some (Posted transfer)) xs ys same = same_state transfer _ xs ys same
same_ended (Some (Voided transfer)) xs ys same = same_state transfer _ xs ys same

pub same_opened : (account : Account) (xs ys : TypedRows) → AreSameRows xs ys → AreSameRows (with_opened account xs) (with_opened account ys)
unfolding with_opened
same_opened account xs ys same = record {
  clock = same.clock;
  accounts = IsPermutation-append_left (account ∷ []) xs.accounts ys.accounts same.accounts;
  transfers = same.transfers;
  balances = IsPermutation-append_left (new_balance account ∷ []) xs.balances ys.balances same.balances;
  statuses = same.statuses;
  history = same.history;
  failed = same.failed;
}

pub same_accepted : (accepted : Accepted) (xs ys : TypedRows) → AreSameRows xs ys → AreSameRows (with_accepted accepted xs) (with_accepted accepted ys)
unfolding with_accepted
same_accepted accepted xs ys same = record {
  clock = same.clock;
  accounts = same.accounts;
  transfers = IsPermutation-append_left (accepted.stored ∷ []) xs.transfers ys.transfers same.transfers;
  balances = same_both accepted.stored accepted.debit_after accepted.credit_after xs.balances ys.balances same.balances;
  statuses = IsPermutation-append_left (new_statuses accepted.stored) (ended accepted.ends xs.statuses) (ended accepted.ends ys.statuses) (same_ended accepted.ends xs.statuses ys.statuses same.statuses);
  history = IsPermutation-append_left (new_history accepted) xs.history ys.history same.history;
  failed = same.failed;
}

pub same_expired : (t : Transfer) (debit credit : Balances) (xs ys : TypedRows) → AreSameRows xs ys → AreSameRows (with_expired t debit credit xs) (with_expired t debit credit ys)
unfolding with_expired
same_expired t debit credit xs ys same = record {
  clock = same.clock;
  accounts = same.accounts;
  transfers = same.transfers;
  balances = same_both t _ _ xs.balances ys.balances same.balances;
  statuses = same_state t.id _ xs.statuses ys.statuses same.statuses;
  history = same.history;
  failed = same.failed;
}

-- a new id among the others
id_by : (below here : Bool) (id other : ℕ) (ids more : List ℕ) → here ≡ false → IsPermutation (id ∷ ids) more → IsPermutation (id ∷ other ∷ ids) (cond below (id ∷ other ∷ ids) (cond here (other ∷ ids) (other ∷ more)))
id_by true here id other ids more new same = IsPermutation-refl (id ∷ other ∷ ids)
id_by false here id other ids more new same =
    subst (λ (list : List ℕ). IsPermutation (id ∷ other ∷ ids) list) (sym (cond-false here (other ∷ ids) (other ∷ more) new))
    (IsPermutation-trans _ _ _ (turned id other ids) (IsPermutation-cons other (id ∷ ids) more same))

pub new_id : (id : ℕ) (ids : List ℕ) → has_id id ids ≡ false → IsPermutation (id ∷ ids) (with_id id ids)
new_id id [] new = IsPermutation-refl (id ∷ [])
new_id id (other ∷ ids) new =
    let parts = or_parts (eqb other id) (has_id id ids) new in
    id_by (ltb id other) (eqb id other) id other ids (with_id id ids) (eqb-sym id other ∙ parts.0) (new_id id ids parts.1)

pub same_failed : (id : ℕ) (xs ys : TypedRows) → has_id id xs.failed ≡ false → AreSameRows xs ys → AreSameRows (with_failed_id id xs) (record ys { failed = ys.failed ++ id ∷ [] })
unfolding with_failed_id
same_failed id xs ys new same = record {
  clock = same.clock;
  accounts = same.accounts;
  transfers = same.transfers;
  balances = same.balances;
  statuses = same.statuses;
  history = same.history;
  failed =
      IsPermutation-trans (with_id id xs.failed) (id ∷ xs.failed) (ys.failed ++ id ∷ []) (IsPermutation-sym (id ∷ xs.failed) (with_id id xs.failed) (new_id id xs.failed new))
      (IsPermutation-trans (id ∷ xs.failed) (xs.failed ++ id ∷ []) (ys.failed ++ id ∷ []) (IsPermutation-append_comm (id ∷ []) xs.failed) (IsPermutation-append_left (id ∷ []) xs.failed ys.failed same.failed));
}

pub same_then : (xs ys zs : TypedRows) → AreSameRows xs ys → AreSameRows ys zs → AreSameRows xs zs
same_then xs ys zs first second = record {
  clock = first.clock ∙ second.clock;
  accounts = IsPermutation-trans xs.accounts ys.accounts zs.accounts first.accounts second.accounts;
  transfers = IsPermutation-trans xs.transfers ys.transfers zs.transfers first.transfers second.transfers;
  balances = IsPermutation-trans xs.balances ys.balances zs.balances first.balances second.balances;
  statuses = IsPermutation-trans xs.statuses ys.statuses zs.statuses first.statuses second.statuses;
  history = IsPermutation-trans xs.history ys.history zs.history first.history second.history;
  failed = IsPermutation-trans xs.failed ys.failed zs.failed first.failed second.failed;
}
