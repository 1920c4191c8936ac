-- What the next released transfer changes in the rows.
use Rattle.std.proofs.Common.{◌≡◌, ◌≤◌, ◌+◌, ◌-◌, ℕ, Bool, true, false, ◌&&◌, ◌||◌, eqb, cond, List, [], ◌∷◌, ◌++◌, map, Some, inl, inr, refl, sym, ap, ap₂, ◌∙◌, subst, arith}
use Rattle.std.specs.List.{list_any, sum_by, filter}
use Rattle.std.specs.Option.{option_map}
use Rattle.std.proofs.lemmas.Bool.{cases_Bool, both_ways, eqb-true, eq-eqb, cond-true, cond-false}
use Rattle.records.specs.declared.account.Account.{Account}
use Rattle.records.specs.declared.transfer.Transfer.{Transfer}
use Rattle.records.specs.declared.side.Side.{Side}
use Rattle.records.specs.declared.side.Side.TheVariants.{Debit, Credit}
use Rattle.records.specs.declared.balances.Balances.{Balances}
use Rattle.records.specs.declared.facts.PendingState.TheVariants.{Expired}
use Rattle.records.specs.Flags.{is_pending}
use Rattle.records.specs.Sides.{account_on}
use Rattle.records.specs.Machine.{Machine, has_id, account_with, transfer_with}
use Rattle.records.specs.Due.{is_due}
use Rattle.records.specs.Fate.{posts, voids, is_open, fate_of}
use Rattle.records.specs.Balances.{amount_on}
use Rattle.engine.specs.After.{balances_released}
use Rattle.rows.specs.declared.balance_row.BalanceRow.{BalanceRow}
use Rattle.rows.specs.Keyed.{row_with}
use Rattle.rows.specs.Changes.{set_state, with_expired}
use Rattle.rows.specs.Settling.{fate_when, pending_when, balances_when, balance_row_when, rows_when, is_past_with, rows_released, IsNextRelease}
use Rattle.engine.proofs.ValidMachineLemmas.{found_all, found_key, other_way, any_push, one_changed, any_push_no, fate_by, IsEntrySound, IsSound}
use Rattle.rows.proofs.RowLists.{row_with-map}
use Rattle.rows.proofs.NextFates as fates
use Rattle.rows.proofs.NextBalances as sums
use Rattle.rows.proofs.Counts.{IsReleasing}

-- what counts as past before and after
abbrev was_past : Machine → List ℕ → Transfer → Bool
was_past m done = is_past_with m.clock done

abbrev now_past : Machine → List ℕ → ℕ → Transfer → Bool
now_past m done id = is_past_with m.clock (done ++ id ∷ [])

-- an open fate
open_by : (posted voided due : Bool) → is_open (fate_by posted voided due) ≡ true → (posted ≡ false) × (voided ≡ false) × (due ≡ false)
open_by true voided due h = absurd (grind arith)
open_by false true due h = absurd (grind arith)
open_by false false true h = absurd (grind arith)
open_by false false false h = (refl, refl, refl)

-- the transfer is pending, nothing has ended it, and it is not yet past
record IsOpenNow (m : Machine) (done : List ℕ) (id : ℕ) (t : Transfer) : Type 0 where
  id_is : t.id ≡ id
  pends : is_pending t.flags ≡ true
  posted : list_any (posts id) m.transfers ≡ false
  voided : list_any (voids id) m.transfers ≡ false
  was : was_past m done t ≡ false

and_parts : (a b c : Bool) → (a && (b && c)) ≡ true → (a ≡ true) × (b ≡ true)
and_parts true true c h = (refl, refl)
and_parts true false c h = absurd (both_ways false refl h)
and_parts false b c h = absurd (both_ways false refl h)

open_now : (m : Machine) (clock : ℕ) (done : List ℕ) (id : ℕ) (t : Transfer) → IsReleasing m clock done id t → IsOpenNow m done id t
open_now m clock done id t r =
    let is = found_key (λ (x : Transfer). x.id) id m.transfers t r.found in
    let parts = and_parts (is_pending t.flags) (is_open (fate_of m.transfers m.clock t)) _ r.due in
    let state = open_by (list_any (posts t.id) m.transfers) (list_any (voids t.id) m.transfers) (is_due m.clock t) parts.1 in
    record {
      id_is = is;
      pends = parts.0;
      posted = subst (λ (k : ℕ). list_any (posts k) m.transfers ≡ false) is state.0;
      voided = subst (λ (k : ℕ). list_any (voids k) m.transfers ≡ false) is state.1;
      was = ap₂ (λ (a : Bool) (b : Bool). a || b) state.2 (subst (λ (k : ℕ). has_id k done ≡ false) (sym is) r.not_done);
    }

-- past for another transfer stays, and it is past itself
past_other : (m : Machine) (done : List ℕ) (id : ℕ) (e : Transfer) → eqb e.id id ≡ false → now_past m done id e ≡ was_past m done e
past_other m done id e away = ap (λ (b : Bool). is_due m.clock e || b) (any_push_no (λ (x : ℕ). eqb x e.id) done id (other_way e.id id away))

or_true : (a b : Bool) → (a || (b || true)) ≡ true
or_true true b = refl
or_true false true = refl
or_true false false = refl

past_itself : (m : Machine) (done : List ℕ) (id : ℕ) (e : Transfer) → e.id ≡ id → now_past m done id e ≡ true
past_itself m done id e is =
    ap (λ (b : Bool). is_due m.clock e || b) (any_push (λ (x : ℕ). eqb x e.id) done id ∙ ap (λ (b : Bool). has_id e.id done || b) (eq-eqb id e.id (sym is)))
    ∙ or_true (is_due m.clock e) (has_id e.id done)

-- each fate
fate_after : (m : Machine) (done : List ℕ) (id : ℕ) (t e : Transfer) → IsOpenNow m done id t → fate_when (now_past m done id) m.transfers e ≡ cond (eqb e.id id) Expired (fate_when (was_past m done) m.transfers e)
fate_after m done id t e o = elim (cases_Bool (eqb e.id id)) [
  | inl is ↦
      let same = sym (eqb-true e.id id is) in
      let posted = subst (λ (k : ℕ). list_any (posts k) m.transfers ≡ false) same o.posted in
      let voided = subst (λ (k : ℕ). list_any (voids k) m.transfers ≡ false) same o.voided in
      (λ i. fate_by (posted i) (voided i) (past_itself m done id e (sym same) i)) ∙ sym (cond-true (eqb e.id id) Expired (fate_when (was_past m done) m.transfers e) is)
  | inr not ↦
      ap (fate_by (list_any (posts e.id) m.transfers) (list_any (voids e.id) m.transfers)) (past_other m done id e not)
      ∙ sym (cond-false (eqb e.id id) Expired (fate_when (was_past m done) m.transfers e) not)
]

-- each pending amount
pending_other : (m : Machine) (done : List ℕ) (id : ℕ) (e : Transfer) → eqb e.id id ≡ false → pending_when (now_past m done id) m.transfers e ≡ pending_when (was_past m done) m.transfers e
pending_other m done id e away = ap (λ (past : Bool). cond (is_pending e.flags && is_open (fate_by (list_any (posts e.id) m.transfers) (list_any (voids e.id) m.transfers) past)) e.amount 0) (past_other m done id e away)

no_pending : (pends posted voided past : Bool) (amount : ℕ) → past ≡ true → cond (pends && is_open (fate_by posted voided past)) amount 0 ≡ 0
no_pending pends posted voided past amount h = grind arith

all_pending : (pends posted voided past : Bool) (amount : ℕ) → pends ≡ true → posted ≡ false → voided ≡ false → past ≡ false → cond (pends && is_open (fate_by posted voided past)) amount 0 ≡ amount
all_pending pends posted voided past amount a b c d = grind arith

pending_after : (m : Machine) (done : List ℕ) (id : ℕ) (t : Transfer) → IsOpenNow m done id t → pending_when (now_past m done id) m.transfers t ≡ 0
pending_after m done id t o = no_pending (is_pending t.flags) (list_any (posts t.id) m.transfers) (list_any (voids t.id) m.transfers) (now_past m done id t) t.amount (past_itself m done id t o.id_is)

pending_before : (m : Machine) (done : List ℕ) (id : ℕ) (t : Transfer) → IsOpenNow m done id t → pending_when (was_past m done) m.transfers t ≡ t.amount
pending_before m done id t o =
    let same = sym o.id_is in
    all_pending (is_pending t.flags) (list_any (posts t.id) m.transfers) (list_any (voids t.id) m.transfers) (was_past m done t) t.amount o.pends
    (subst (λ (k : ℕ). list_any (posts k) m.transfers ≡ false) same o.posted) (subst (λ (k : ℕ). list_any (voids k) m.transfers ≡ false) same o.voided) o.was

nothing : (has : Bool) → cond {A = ℕ} has 0 0 ≡ 0
nothing true = refl
nothing false = refl

-- the pending sum of an account on a side
abbrev pending_sum : (Transfer → Bool) → Machine → Side → ℕ → ℕ
pending_sum is_past m side account = sum_by (amount_on side account (pending_when is_past m.transfers)) m.transfers

-- what it loses
loses : (m : Machine) (done : List ℕ) (id : ℕ) (t : Transfer) → IsSound m → transfer_with id m.transfers ≡ Some t → IsOpenNow m done id t → (side : Side) (account : ℕ) → pending_sum (now_past m done id) m side account + cond (eqb (account_on side t) account) t.amount 0 ≡ pending_sum (was_past m done) m side account
loses m done id t s found o side account =
    let after = amount_on side account (pending_when (now_past m done id) m.transfers) in
    let before = amount_on side account (pending_when (was_past m done) m.transfers) in
    let at = λ (e : Transfer) (x : ℕ). cond (eqb (account_on side e) account) x 0 in
    let change = one_changed (λ (x : Transfer). x.id) id after before m.transfers t (λ e away. ap (at e) (pending_other m done id e away)) s.transfers found in
    let gone = ap (at t) (pending_after m done id t o) ∙ nothing (eqb (account_on side t) account) in
    omega (arith, change, gone, ap (at t) (pending_before m done id t o))

taken : (here : Bool) (after before amount : ℕ) → here ≡ true → after + cond here amount 0 ≡ before → (after ≡ before - amount) × (amount ≤ before)
taken true after before amount h is = (omega (arith, is), omega (arith, is))
taken false after before amount h is = absurd (both_ways false refl h)

left : (here : Bool) (after before amount : ℕ) → here ≡ false → after + cond here amount 0 ≡ before → after ≡ before
left true after before amount h is = absurd (both_ways true h refl)
left false after before amount h is = omega (arith, is)

-- the balances of an account now
abbrev balances_now : Machine → (Transfer → Bool) → ℕ → Balances
balances_now m is_past account = balances_when is_past m.transfers account

-- what the transfer takes from its two accounts, and leaves to all others
record Takes (m : Machine) (done : List ℕ) (id : ℕ) (t : Transfer) : Type 0 where
  debit : balances_now m (now_past m done id) t.debit_account_id ≡ balances_released Debit (balances_now m (was_past m done) t.debit_account_id) t.amount
  credit : balances_now m (now_past m done id) t.credit_account_id ≡ balances_released Credit (balances_now m (was_past m done) t.credit_account_id) t.amount
  others : (account : ℕ) → eqb t.debit_account_id account ≡ false → eqb t.credit_account_id account ≡ false → balances_now m (now_past m done id) account ≡ balances_now m (was_past m done) account
  debit_holds : t.amount ≤ pending_sum (was_past m done) m Debit t.debit_account_id
  credit_holds : t.amount ≤ pending_sum (was_past m done) m Credit t.credit_account_id

takes : (m : Machine) (done : List ℕ) (id : ℕ) (t : Transfer) → IsSound m → transfer_with id m.transfers ≡ Some t → IsOpenNow m done id t → eqb t.debit_account_id t.credit_account_id ≡ false → Takes m done id t
takes m done id t s found o differ =
    let d = t.debit_account_id in
    let c = t.credit_account_id in
    let sum_after = pending_sum (now_past m done id) m in
    let sum_before = pending_sum (was_past m done) m in
    let lose = loses m done id t s found o in
    let debit = taken (eqb d d) (sum_after Debit d) (sum_before Debit d) t.amount (eq-eqb d d refl) (lose Debit d) in
    let credit = taken (eqb c c) (sum_after Credit c) (sum_before Credit c) t.amount (eq-eqb c c refl) (lose Credit c) in
    let debit_other = left (eqb c d) (sum_after Credit d) (sum_before Credit d) t.amount (other_way d c differ) (lose Credit d) in
    let credit_other = left (eqb d c) (sum_after Debit c) (sum_before Debit c) t.amount differ (lose Debit c) in
    let old = balances_now m (was_past m done) in
    record {
      debit = λ i. record { debits = record { pending = debit.0 i; posted = (old d).debits.posted }; credits = record { pending = debit_other i; posted = (old d).credits.posted } };
      credit = λ i. record { debits = record { pending = credit_other i; posted = (old c).debits.posted }; credits = record { pending = credit.0 i; posted = (old c).credits.posted } };
      others = λ account away_debit away_credit.
          let debits = left (eqb d account) (sum_after Debit account) (sum_before Debit account) t.amount away_debit (lose Debit account) in
          let credits = left (eqb c account) (sum_after Credit account) (sum_before Credit account) t.amount away_credit (lose Credit account) in
          λ i. record { debits = record { pending = debits i; posted = (old account).debits.posted }; credits = record { pending = credits i; posted = (old account).credits.posted } };
      debit_holds = debit.1;
      credit_holds = credit.1;
    }

-- the row of an account that is there
row_found : (m : Machine) (is_past : Transfer → Bool) (id : ℕ) (a : Account) → account_with id m.accounts ≡ Some a → row_with (λ (row : BalanceRow). row.account) id (map (balance_row_when is_past m) m.accounts) ≡ Some (sums.balance_of id (balances_now m is_past id))
row_found m is_past id a found =
    row_with-map (λ (row : BalanceRow). row.account) id (balance_row_when is_past m) m.accounts
    ∙ ap (option_map (balance_row_when is_past m)) found
    ∙ ap (λ (k : ℕ). Some (sums.balance_of k (balances_now m is_past k))) (found_key (λ (x : Account). x.id) id m.accounts a found)

-- the rows without it
rows_without : (m : Machine) (done : List ℕ) (id : ℕ) (t : Transfer) → IsOpenNow m done id t → Takes m done id t → rows_released m (done ++ id ∷ []) ≡ with_expired t (balances_now m (was_past m done) t.debit_account_id) (balances_now m (was_past m done) t.credit_account_id) (rows_released m done)
unfolding rows_when with_expired
rows_without m done id t o k =
    let old = rows_released m done in
    let d = balances_now m (was_past m done) t.debit_account_id in
    let c = balances_now m (was_past m done) t.credit_account_id in
    let balances = sums.set_rows (balances_now m (was_past m done)) (balances_now m (now_past m done id)) t (balances_released Debit d t.amount) (balances_released Credit c t.amount) k.debit k.credit k.others m.accounts in
    let pends = filter (λ (x : Transfer). is_pending x.flags) m.transfers in
    let statuses = fates.set_rows (fate_when (was_past m done) m.transfers) (fate_when (now_past m done id) m.transfers) id Expired (λ e. fate_after m done id t e o) pends ∙ ap (λ (key : ℕ). set_state key Expired old.statuses) (sym o.id_is) in
    λ i. record old { balances = balances i; statuses = statuses i }

-- the next release
pub next_release : (m : Machine) (clock : ℕ) (done : List ℕ) (id : ℕ) (t : Transfer) → IsSound m → IsReleasing m clock done id t → IsNextRelease m done id t (balances_now m (was_past m done) t.debit_account_id) (balances_now m (was_past m done) t.credit_account_id)
unfolding rows_when
next_release m clock done id t s r =
    let o = open_now m clock done id t r in
    let entry = found_all (IsEntrySound m.accounts m.transfers) (λ (x : Transfer). x.id) id m.transfers t s.entries r.found in
    let k = takes m done id t s r.found o entry.differ in
    record {
      found = r.found;
      id_is = o.id_is;
      debit_found = row_found m (was_past m done) t.debit_account_id (entry.account Debit) (entry.is_account Debit);
      credit_found = row_found m (was_past m done) t.credit_account_id (entry.account Credit) (entry.is_account Credit);
      debit_holds = k.debit_holds;
      credit_holds = k.credit_holds;
      leaves = rows_without m done id t o k;
    }
