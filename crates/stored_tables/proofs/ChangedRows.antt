-- A tenant's rows are changed one after the other.
use Rattle.std.proofs.Common.{◌≡◌, IfSome, ℕ, ◌<◌, ◌^◌, ℤ, Option, Some, None, Ok, Err, Result, OnOk, IfOk, IsSome, List, refl, sym, subst}
use Rattle.std.proofs.lemmas.List.Elements.{recursion_from_All, All-from_recursion}
use Rattle.std.proofs.lemmas.Result.{on_ok_weaker}
use Rattle.sqlite.specs.Effect.{Database}
use Rattle.sqlite.specs.State.{State, IsUnchanged}
use Rattle.records.specs.declared.accepted.Ending.{Ending}
use Rattle.records.specs.declared.balances.Balances.{Balances}
use Rattle.records.specs.declared.transfer.Transfer.{Transfer}
use Rattle.records.specs.declared.facts.PendingState.{PendingState}
use Rattle.records.specs.declared.unavailable.Unavailable.{Unavailable}
use Rattle.engine.specs.EndingLaw.{ended_id}
use Rattle.rows.specs.declared.balance_row.BalanceRow.{BalanceRow}
use Rattle.rows.specs.declared.status_row.StatusRow.{StatusRow}
use Rattle.rows.specs.StatusNumbers.{IsStorableDue}
use Rattle.rows.specs.Widths.{IsStorableStatus}
use Rattle.rows.specs.Changes.{set_balances, set_both, set_state, ended}
use Rattle.rows.specs.Keyed.{row_with, changed}
use Rattle.stored_tables.specs.Moves.{MovesRows, ChangesRows, IsThere, HasBoth, HasStatus, CanEnd, IsStatusOf}
use Rattle.stored_tables.proofs.RowMoves.{distinct_kept, all_kept, found_key, found_kept, some_of}
use Rattle.stored_tables.proofs.Writing.{writes_then, writes_after_same}

-- two facts of a value give a third
pub both_ok : {X E : Type 0} (r : Result X E) (P Q R : X → Type 0) → ((x : X) → P x → Q x → R x) → IfOk r P → IfOk r Q → IfOk r R
both_ok (Ok x) P Q R join p q = join x p q
both_ok (Err e) P Q R join p q = tt

is_some : {A : Type 0} (o : Option A) (x : A) → o ≡ Some x → IsSome o
is_some o x is = subst IsSome (sym is) refl

-- a change of another row leaves the row
pub there_kept : {R : Type 0} (key : R → ℕ) (id k : ℕ) (change : R → R) → ((x : R) → key (change x) ≡ key x) → (xs : List R) → IsThere key id xs → IsThere key id (changed key k change xs)
there_kept key id k change keeps xs there =
    let at = some_of (row_with key id xs) there.found in
    let found = found_kept key k change keeps id xs at.0 at.1 in
    record {
      ids = All-from_recursion (λ x. key x < 2 ^ 128) (changed key k change xs) (all_kept key k change keeps (λ n. n < 2 ^ 128) xs (recursion_from_All (λ x. key x < 2 ^ 128) xs there.ids));
      distinct = distinct_kept key k change keeps xs there.distinct;
      found = is_some (row_with key id (changed key k change xs)) found.0 found.1;
    }

abbrev SetsBalances : ℤ → ℕ → Balances → State → State → Type 0
SetsBalances tenant account balances s0 s1 = ChangesRows tenant (λ rows. IsThere (λ row. row.account) account rows.balances) (λ rows. record rows { balances = set_balances account balances rows.balances }) s0 s1

pub both_set : (tenant : ℤ) (t : Transfer) (debit credit : Balances) (s0 s1 s2 : State) (r : Result (Unit {0}) Unavailable) → SetsBalances tenant t.debit_account_id debit s0 s1 → OnOk r (SetsBalances tenant t.credit_account_id credit s1 s2)
    → OnOk r (ChangesRows tenant (λ rows. HasBoth t rows.balances) (λ rows. record rows { balances = set_both t debit credit rows.balances }) s0 s2)
both_set tenant t debit credit s0 s1 s2 r first second =
    on_ok_weaker r
    (λ (w : SetsBalances tenant t.credit_account_id credit s1 s2).
    writes_then tenant (λ rows. IsThere (λ row. row.account) t.debit_account_id rows.balances) (λ rows. IsThere (λ row. row.account) t.credit_account_id rows.balances) (λ rows. HasBoth t rows.balances)
    (λ rows. record rows { balances = set_balances t.debit_account_id debit rows.balances }) (λ rows. record rows { balances = set_balances t.credit_account_id credit rows.balances }) s0 s1 s2 first w
    (λ rows has. (has.debit, there_kept (λ (row : BalanceRow). row.account) t.credit_account_id t.debit_account_id (λ row. record row { balances = debit }) (λ row. refl) rows.balances has.credit)))
    second

-- the row that was found is storable
some_fits : {A : Type 0} (P : A → Type 0) (o : Option A) (x : A) → o ≡ Some x → IfSome o P → P x
some_fits P o x is fits = subst (λ o. IfSome o P) is fits

pub due_fits : (due : Option ℕ) → IsStorableDue due → (time : ℕ) → due ≡ Some time → time < 2 ^ 63
due_fits None fits time is = absurd (cc)
due_fits (Some due) fits time is = let same : due ≡ time = cc in subst (λ n. n < 2 ^ 63) same fits.1

pub row_due_fits : (o : Option StatusRow) (row : StatusRow) → o ≡ Some row → IfSome o IsStorableStatus → (time : ℕ) → row.due ≡ Some time → time < 2 ^ 63
row_due_fits o row is fits = due_fits row.due (some_fits IsStorableStatus o row is fits).due

-- a status row that was found under an id is set
module _ (tenant : ℤ) (id : ℕ) (to : PendingState) (s0 s1 s2 : State) where
  abbrev SetsState : ℕ → State → Type 0
  SetsState k s = ChangesRows tenant (λ rows. HasStatus k rows.statuses) (λ rows. record rows { statuses = set_state k to rows.statuses }) s s2

  state_written : (row : StatusRow) → IsStatusOf tenant id s0.now.trees (Some row) → IsUnchanged s0 s1 → SetsState row.transfer s1 → SetsState id s0
  state_written row told same sets =
      writes_after_same tenant (λ rows. HasStatus id rows.statuses) (λ rows. record rows { statuses = set_state id to rows.statuses }) s0 s1 s2 same
      (record {
        inside = sets.inside;
        moves = λ rows can num held.
            let there = subst (λ (db : Database). IsStatusOf tenant id db.trees (Some row)) (sym same.0.now_is) told rows held can.storable can.there.distinct in
            let own = found_key (λ (r : StatusRow). r.transfer) id rows.statuses row (sym there) in
            (subst (λ k. SetsState k s1) own sets).moves rows can num held;
      })

  -- so is that of the transfer that is ended
  pub end_written : (ending : Ending) → id ≡ ended_id ending → ((rows : List StatusRow) → ended (Some ending) rows ≡ set_state id to rows) → (row : StatusRow) → IsStatusOf tenant id s0.now.trees (Some row) → IsUnchanged s0 s1 → (r : Result (Unit {0}) Unavailable)
      → OnOk r (SetsState row.transfer s1) → OnOk r (ChangesRows tenant (λ rows. CanEnd (Some ending) rows.statuses) (λ rows. record rows { statuses = ended (Some ending) rows.statuses }) s0 s2)
  end_written ending own is row told same r sets =
      on_ok_weaker r
      (λ (set : SetsState row.transfer s1).
      let w = state_written row told same set in
      record {
        inside = w.inside;
        moves = λ rows can num held.
            subst (λ (statuses : List StatusRow). MovesRows tenant (record rows { statuses = statuses }) s0.now s2.now) (sym (is rows.statuses))
            (w.moves rows (subst (λ k. HasStatus k rows.statuses) (sym own) can) num held);
      })
      sets
