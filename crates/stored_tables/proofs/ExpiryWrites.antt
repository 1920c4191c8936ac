-- What the expiry of a transfer writes, and what it keeps back.
use Rattle.std.proofs.Common.{◌≡◌, ℕ, ◌<◌, ◌^◌, ℤ, Bool, true, false, eqb, cond, List, Option, Some, IsSome, Result, OnOk, refl, sym, ap, subst, ◌∙◌}
use Rattle.std.proofs.lemmas.Bool.{eqb-true}
use Rattle.std.proofs.lemmas.List.Elements.{All-weaker}
use Rattle.std.proofs.lemmas.Result.{on_ok_weaker}
use Rattle.sqlite_trees.specs.Tree.{Trees}
use Rattle.sqlite.specs.Effect.{Database}
use Rattle.sqlite.specs.State.{State, IsUnchanged}
use Rattle.records.specs.declared.balances.Balances.{Balances}
use Rattle.records.specs.declared.facts.PendingState.TheVariants.{Expired}
use Rattle.records.specs.declared.transfer.Transfer.{Transfer}
use Rattle.records.specs.declared.unavailable.Unavailable.{Unavailable}
use Rattle.rows.specs.declared.balance_row.BalanceRow.{BalanceRow}
use Rattle.rows.specs.declared.status_row.StatusRow.{StatusRow}
use Rattle.rows.specs.Changes.{set_balances, set_both, set_state, with_expired}
use Rattle.rows.specs.TypedRows.{TypedRows}
use Rattle.rows.specs.Keyed.{row_with}
use Rattle.rows.specs.Widths.{IsStorableStatus}
use Rattle.stored_tables.specs.declared.expiry.Expiry.{Expiry}
use Rattle.stored_tables.specs.Holds.{HoldsRows}
use Rattle.stored_tables.specs.Kept.{Kept, with_balances, with_kept, HoldsKept}
use Rattle.stored_tables.specs.Moves.{ChangesRows, HasStatus, IsStatusOf}
use Rattle.stored_tables.specs.Releasing.{CanExpire, IsExpiry, HasStatusRow, with_expiry, expiry_of, Expires}
use Rattle.stored_tables.proofs.KeptRows.{look_under, set_over}
use Rattle.stored_tables.proofs.RowMoves.{found_key}
use Rattle.stored_tables.proofs.Writing.{writes_after_same}

abbrev account_of : BalanceRow → ℕ
account_of row = row.account

is_some : {A : Type 0} (o : Option A) (x : A) → o ≡ Some x → IsSome o
is_some o x is = subst IsSome (sym is) refl

-- an account that has balances with what is kept has stored ones
stored_there : (kept : Kept) (stored all : List BalanceRow) (account : ℕ) (row : BalanceRow) → with_kept kept stored ≡ all → row_with account_of account all ≡ Some row → IsSome (row_with account_of account stored)
stored_there kept stored all account row is found =
    let it = look_under kept account stored row (ap (row_with account_of account) is ∙ found) in
    is_some (row_with account_of account stored) it.under it.found

-- so have all that are kept once there is one more
there_with : (here : Bool) (v : Balances) (o : Option Balances) (There : Type 0) → (here ≡ true → There) → (IsSome o → There) → IsSome (cond here (Some v) o) → There
there_with true v o There own rest some = own refl
there_with false v o There own rest some = rest some

module _ (stored : List BalanceRow) (was is : Kept) (e : Expiry) (keeps : (other : ℕ) → is other ≡ with_expiry e was other) where
  abbrev There : ℕ → Type 0
  There account = IsSome (row_with account_of account stored)

  abbrev first : Kept
  first = with_balances e.transfer.debit_account_id e.debit was

  both_there : There e.transfer.debit_account_id → There e.transfer.credit_account_id → ((account : ℕ) → IsSome (was account) → There account) → (account : ℕ) → IsSome (is account) → There account
  both_there debit credit others account some =
      there_with (eqb e.transfer.credit_account_id account) e.credit (first account) (There account) (λ same. subst There (eqb-true e.transfer.credit_account_id account same) credit)
      (there_with (eqb e.transfer.debit_account_id account) e.debit (was account) (There account) (λ same. subst There (eqb-true e.transfer.debit_account_id account same) debit) (others account))
      (subst IsSome (keeps account) some)

  both_kept : with_kept is stored ≡ set_both e.transfer e.debit e.credit (with_kept was stored)
  both_kept =
      set_over e.transfer.credit_account_id e.credit first is keeps stored
      ∙ ap (set_balances e.transfer.credit_account_id e.credit) (set_over e.transfer.debit_account_id e.debit was first (λ other. refl) stored)

abbrev SetsState : ℤ → ℕ → State → State → Type 0
SetsState tenant id s0 s1 = ChangesRows tenant (λ rows. HasStatus id rows.statuses) (λ rows. record rows { statuses = set_state id Expired rows.statuses }) s0 s1

has_status : (t : Transfer) (debit credit : Balances) (rows : TypedRows) → CanExpire t debit credit rows → HasStatus t.id rows.statuses
has_status t debit credit rows can = record {
  there = record {
    ids = All-weaker IsStorableStatus (λ row. row.transfer < 2 ^ 128) (λ row fit. fit.transfer) rows.statuses can.apart.statuses_fit;
    distinct = can.apart.statuses;
    found = can.has_status;
  };
  storable = can.apart.statuses_fit;
}

module _ (tenant : ℤ) (id : ℕ) (was is : Kept) (e : Expiry) (s0 s1 s2 : State) (told : IsExpiry tenant was id s0.now.trees e) (same : IsUnchanged s0 s1) (keeps : (other : ℕ) → is other ≡ with_expiry e was other) where
  -- the rows with what is kept then
  held_after : (t : Transfer) (debit credit : Balances) (rows : TypedRows) → CanExpire t debit credit rows → (held : HoldsKept tenant was rows s0.now.trees) → e ≡ expiry_of t debit credit
      → HoldsRows tenant (record rows { balances = held.stored; statuses = set_state t.id Expired rows.statuses }) s2.now.trees → HoldsKept tenant is (with_expired t debit credit rows) s2.now.trees
  unfolding with_expired
  held_after t debit credit rows can held equal after = record {
    stored = held.stored;
    ids = held.ids;
    distinct = held.distinct;
    there =
        both_there held.stored was is e keeps
        (subst (λ (x : Expiry). IsSome (row_with account_of x.transfer.debit_account_id held.stored)) (sym equal) (stored_there was held.stored rows.balances t.debit_account_id _ held.balances can.debit_found))
        (subst (λ (x : Expiry). IsSome (row_with account_of x.transfer.credit_account_id held.stored)) (sym equal) (stored_there was held.stored rows.balances t.credit_account_id _ held.balances can.credit_found))
        held.there;
    balances = both_kept held.stored was is e keeps ∙ ap (set_both e.transfer e.debit e.credit) held.balances ∙ ap (λ (x : Expiry). set_both x.transfer x.debit x.credit rows.balances) equal;
    holds = after;
  }

  expires : SetsState tenant id s1 s2 → Expires tenant id was is s0 s2
  expires w =
      let all : SetsState tenant id s0 s2 = writes_after_same tenant (λ rows. HasStatus id rows.statuses) (λ rows. record rows { statuses = set_state id Expired rows.statuses }) s0 s1 s2 same w in
      record {
        inside = all.inside;
        writes = λ t debit credit own. record {
          inside = all.inside;
          moves = λ rows can num held.
              let set = (subst (λ (k : ℕ). SetsState tenant k s0 s2) (sym own) all).moves (record rows { balances = held.stored }) (has_status t debit credit rows can) num held.holds in
              record { numbered = set.numbered; others = set.others; strangers = set.strangers; rows = held_after t debit credit rows can held (told t debit credit rows can own held) set.rows };
        };
      }

  pub expired : (r : Result (Unit {0}) Unavailable) → OnOk r (SetsState tenant id s1 s2) → OnOk r (Expires tenant id was is s0 s2)
  expired r w = on_ok_weaker r expires w

-- the status row is still there where nothing has changed
pub still_told : (tenant : ℤ) (row : StatusRow) (s0 s1 : State) → IsUnchanged s0 s1 → HasStatusRow tenant row s0 → HasStatusRow tenant row s1
still_told tenant row s0 s1 same told = subst (λ (db : Database). IsStatusOf tenant row.transfer db.trees (Some row)) (sym same.0.now_is) told

-- what was found under an id is the status row of its transfer
pub told_of_row : (tenant : ℤ) (id : ℕ) (row : StatusRow) (trees : Trees) → IsStatusOf tenant id trees (Some row) → IsStatusOf tenant row.transfer trees (Some row)
told_of_row tenant id row trees told = λ rows held fit once.
    let is = told rows held fit once in
    subst (λ (k : ℕ). Some row ≡ row_with (λ (r : StatusRow). r.transfer) k rows.statuses) (sym (found_key (λ (r : StatusRow). r.transfer) id rows.statuses row (sym is))) is
