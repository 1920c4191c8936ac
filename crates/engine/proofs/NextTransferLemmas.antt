-- What the next entry of a machine meets in it, in terms of the machine's lists.
use Rattle.std.proofs.Common.{◌≡◌, ◌≤◌, ◌+◌, ℕ, Bool, true, false, not, ◌&&◌, ◌||◌, eqb, ltb, cond, Option, Some, None, refl, sym, ap, ◌∙◌, subst, subst₂, arith}
use Rattle.std.specs.List.{list_any}
use Rattle.std.proofs.lemmas.Bool.Decides.{nat_tests}
use Rattle.std.proofs.lemmas.Bool.{not-false, eqb-true}
use Rattle.records.specs.declared.account.Account.{Account}
use Rattle.records.specs.declared.side.Side.{Side}
use Rattle.records.specs.declared.side.Side.TheVariants.{Debit, Credit}
use Rattle.records.specs.declared.transfer.Transfer.{Transfer}
use Rattle.records.specs.declared.facts.PendingState.{PendingState}
use Rattle.records.specs.declared.facts.AccountWithBalances.{AccountWithBalances}
use Rattle.records.specs.declared.facts.PendingTransfer.{PendingTransfer}
use Rattle.records.specs.Flags.{is_pending, is_post, is_void, is_post_or_void, is_balancing}
use Rattle.records.specs.Sides.{other_side, account_on, limits_side}
use Rattle.records.specs.Machine.{Machine, max_amount, account_with, transfer_with, has_id}
use Rattle.records.specs.Due.{is_due}
use Rattle.records.specs.Fate.{posts, voids}
use Rattle.records.specs.Facts.{facts_of, state_in, with_state}
use Rattle.records.specs.TransferVerdict.{transfer_verdict, is_posted, is_voided, is_expired, pending_transfer_results, is_given_otherwise, single_or_pending_results, ledger_results, overflow_results, limit_results}
use Rattle.records.specs.ActualAmount.{amount_balanced}
use Rattle.records.specs.Step.{transfer_verdict_in}
use Rattle.records.specs.StoredRecord.{field_from, source_of}
use Rattle.records.specs.Valid.{IsNextTransfer, event_of_transfer}
use Rattle.engine.proofs.FirstOfLemmas.{AllFail}
use Rattle.engine.proofs.AcceptedEventLemmas.{accepted_new_id, accepted_post_or_void, accepted_single_or_pending}
use Rattle.engine.proofs.PostOrVoidLemmas.{ended_fits, given_same}
use Rattle.engine.proofs.SentAgainLemmas.{post_or_void_amount, post_or_void_field, single_or_pending_amount}
use Rattle.engine.proofs.SideLemmas.{by_side}
use Rattle.engine.proofs.FactsLemmas.{existing_of, failed_of, pending_of, own_account_of, with_balances_of, account_parts, pending_parts, existing_parts}
use Rattle.engine.proofs.FateLemmas.{fate_by}
use Rattle.engine.proofs.SideSumLemmas.{posted_in, total_in}

-- any next entry: its id is new and has not failed, and its flags do not exclude each other
pub record NextEntry (m : Machine) (t : Transfer) : Type 0 where
  pub unknown : transfer_with t.id m.transfers ≡ None
  pub not_failed : has_id t.id m.failed ≡ false
  pub single : is_post_or_void t.flags ≡ true → is_pending t.flags ≡ false
  pub one_end : is_post t.flags ≡ true → is_void t.flags ≡ false

-- a next post or void: what it ends was open, and it takes that one's accounts and ledger
pub record NextPostOrVoid (m : Machine) (t : Transfer) : Type 0 where
  pub pending : Transfer
  pub found : transfer_with t.pending_id m.transfers ≡ Some pending
  pub pends : is_pending pending.flags ≡ true
  pub posted : list_any (posts pending.id) m.transfers ≡ false
  pub voided : list_any (voids pending.id) m.transfers ≡ false
  pub in_time : is_due m.clock pending ≡ false
  pub account : (side : Side) → account_on side t ≡ account_on side pending
  pub ledger : t.ledger ≡ pending.ledger
  pub fits : t.amount ≤ pending.amount

-- any other next entry: both accounts are there, in its ledger, with room for its amount
pub record NextSingleOrPending (m : Machine) (t : Transfer) : Type 0 where
  pub account : Side → Account
  pub is_account : (side : Side) → account_with (account_on side t) m.accounts ≡ Some (account side)
  pub ledger : (side : Side) → (account side).ledger ≡ t.ledger
  pub differ : eqb t.debit_account_id t.credit_account_id ≡ false
  pub fits : (side : Side) → total_in side m (account_on side t) + t.amount ≤ max_amount
  pub limit : (side : Side) → limits_side side (account side).flags ≡ true → total_in side m (account_on side t) + t.amount ≤ posted_in (other_side side) m (account_on side t)

-- flags that exclude each other
exclusive : (pending ending post void balancing : Bool) → (pending && ending || post && void || ending && balancing) ≡ false → (ending ≡ true → pending ≡ false) × (post ≡ true → void ≡ false)
exclusive pending ending post void balancing h = grind arith

-- a state that is none of three is the fourth
open_by_results : (pends posted voided due : Bool) (state : Option PendingState) → pends ≡ true → cond pends (Some (fate_by posted voided due)) None ≡ state → is_posted state ≡ false → is_voided state ≡ false → is_expired state ≡ false → (posted ≡ false) × (voided ≡ false) × (due ≡ false)
open_by_results false posted voided due state pends is p v d = absurd (grind arith)
open_by_results true true voided due state pends is p v d = absurd (grind arith)
open_by_results true false true due state pends is p v d = absurd (grind arith)
open_by_results true false false true state pends is p v d = absurd (grind arith)
open_by_results true false false false state pends is p v d = (refl, refl, refl)

-- the verdict on its own event
verdict_of : (m : Machine) (t : Transfer) → IsNextTransfer m t → transfer_verdict (facts_of m (event_of_transfer t)) (event_of_transfer t) ≡ None
unfolding transfer_verdict_in
verdict_of m t next = next.accepted

-- the id of a next entry is new
pub next_entry_of : (m : Machine) (t : Transfer) → IsNextTransfer m t → NextEntry m t
next_entry_of m t next =
    let ev = event_of_transfer t in
    let a = accepted_new_id (facts_of m ev) ev (verdict_of m t next) in
    let flags = exclusive (is_pending t.flags) (is_post_or_void t.flags) (is_post t.flags) (is_void t.flags) (is_balancing t.flags) a.first.1.0 in
    record {
      unknown = existing_parts m (transfer_with t.id m.transfers) (sym (existing_of m ev) ∙ a.unknown);
      not_failed = sym (failed_of m ev) ∙ a.first.0;
      single = flags.0;
      one_end = flags.1;
    }

-- the pending transfer that it names, and what its results say of that
record NamesPending (m : Machine) (t pending : Transfer) : Type 0 where
  found : transfer_with t.pending_id m.transfers ≡ Some pending
  is_pending : (facts_of m (event_of_transfer t)).pending ≡ Some (with_state m pending)
  rows : AllFail (pending_transfer_results (with_state m pending) (event_of_transfer t))

names_pending : (m : Machine) (t : Transfer) → IsNextTransfer m t → is_post_or_void t.flags ≡ true → (p : Transfer) × NamesPending m t p
names_pending m t next ends =
    let ev = event_of_transfer t in
    let a = accepted_post_or_void (facts_of m ev) ev (verdict_of m t next) ends in
    let parts = pending_parts m a.pending (transfer_with t.pending_id m.transfers) (sym (pending_of m ev ends) ∙ a.is_pending) in (
      parts.0,
      record {
        found = parts.1;
        is_pending = a.is_pending ∙ ap (λ (x : PendingTransfer). Some x) parts.2;
        rows = subst (λ (x : PendingTransfer). AllFail (pending_transfer_results x ev)) parts.2 a.rows;
      },
    )

-- it is pending, and nothing has ended it
record IsOpenIn (m : Machine) (p : Transfer) : Type 0 where
  pends : is_pending p.flags ≡ true
  posted : list_any (posts p.id) m.transfers ≡ false
  voided : list_any (voids p.id) m.transfers ≡ false
  in_time : is_due m.clock p ≡ false

open_by_rows : (m : Machine) (t p : Transfer) → NamesPending m t p → IsOpenIn m p
open_by_rows m t p n =
    let pends = not-false (is_pending p.flags) n.rows.0 in
    let state = n.rows.1.1.1.1.1.1.1 in
    let fate = open_by_results (is_pending p.flags) (list_any (posts p.id) m.transfers) (list_any (voids p.id) m.transfers) (is_due m.clock p) (state_in m p) pends refl state.0 state.1.0 state.1.1.0 in
    record { pends = pends; posted = fate.0; voided = fate.1; in_time = fate.2 }

-- a field that it takes from the pending transfer is that one's
taken_field : (m : Machine) (t p : Transfer) (field : Transfer → ℕ) (given : ℕ) → NamesPending m t p → is_post_or_void t.flags ≡ true → is_given_otherwise given (field p) ≡ false → field_from field (source_of (facts_of m (event_of_transfer t)) (event_of_transfer t)) given ≡ field p
taken_field m t p field given n ends h = post_or_void_field (facts_of m (event_of_transfer t)) (event_of_transfer t) (with_state m p) field given ends n.is_pending ∙ given_same (field p) given h

amount_fits : (m : Machine) (t p : Transfer) → IsNextTransfer m t → NamesPending m t p → is_post_or_void t.flags ≡ true → t.amount ≤ p.amount
amount_fits m t p next n ends =
    let ev = event_of_transfer t in
    let amount = sym (ap (λ (x : Transfer). x.amount) next.stored) ∙ post_or_void_amount (facts_of m ev) ev (with_state m p) ends n.is_pending in
    subst (λ (x : ℕ). x ≤ p.amount) (sym amount) (ended_fits max_amount (is_void t.flags) (is_post t.flags) p.amount t.amount n.rows.1.1.1.1.1.0)

-- what a next post or void ends was open
pub next_post_or_void : (m : Machine) (t : Transfer) → IsNextTransfer m t → is_post_or_void t.flags ≡ true → NextPostOrVoid m t
next_post_or_void m t next ends =
    let named = names_pending m t next ends in
    let p = named.0 in
    let n = named.1 in
    let o = open_by_rows m t p n in
    let debit = sym (ap (λ (x : Transfer). x.debit_account_id) next.stored) ∙ taken_field m t p (λ x. x.debit_account_id) t.debit_account_id n ends n.rows.1.0 in
    let credit = sym (ap (λ (x : Transfer). x.credit_account_id) next.stored) ∙ taken_field m t p (λ x. x.credit_account_id) t.credit_account_id n ends n.rows.1.1.0 in
    record {
      pending = p;
      found = n.found;
      pends = o.pends;
      posted = o.posted;
      voided = o.voided;
      in_time = o.in_time;
      account = by_side (λ side. account_on side t ≡ account_on side p) debit credit;
      ledger = sym (ap (λ (x : Transfer). x.ledger) next.stored) ∙ taken_field m t p (λ x. x.ledger) t.ledger n ends n.rows.1.1.1.0;
      fits = amount_fits m t p next n ends;
    }

-- what a result says that does not hold
within : (sum limit x amount : ℕ) → amount ≡ x → ltb limit (sum + x) ≡ false → sum + amount ≤ limit
within sum limit x amount same h = grind (arith, nat_tests)

within_limit : (limited : Bool) (sum limit x amount : ℕ) → amount ≡ x → (limited && ltb limit (sum + x)) ≡ false → limited ≡ true → sum + amount ≤ limit
within_limit limited sum limit x amount same h is = grind (arith, nat_tests)

same_number : (a b : ℕ) → not (eqb a b) ≡ false → a ≡ b
same_number a b h = eqb-true a b (not-false (eqb a b) h)

-- the results that speak of both accounts, with the amount that is stored
record NewRows (t : Transfer) (debit credit : AccountWithBalances) (amount : ℕ) : Type 0 where
  amount_is : t.amount ≡ amount
  own : AllFail (single_or_pending_results (event_of_transfer t))
  ledgers : AllFail (ledger_results debit credit (event_of_transfer t))
  room : AllFail (overflow_results debit credit amount (event_of_transfer t))
  limits : AllFail (limit_results debit credit amount)

-- what those results say of the machine
new_from_rows : (m : Machine) (t : Transfer) (debit credit : Account) (amount : ℕ) → account_with t.debit_account_id m.accounts ≡ Some debit → account_with t.credit_account_id m.accounts ≡ Some credit → NewRows t (with_balances_of m t.debit_account_id debit) (with_balances_of m t.credit_account_id credit) amount → NextSingleOrPending m t
new_from_rows m t debit credit amount d c rows =
    let same = same_number debit.ledger credit.ledger rows.ledgers.0 in
    let ledger = same_number t.ledger debit.ledger rows.ledgers.1.0 in
    let account = by_side (λ side. Account) debit credit in
    let fits = λ (side : Side). within (total_in side m (account_on side t)) max_amount amount t.amount rows.amount_is in
    let limit = λ (side : Side). within_limit (limits_side side (account side).flags) (total_in side m (account_on side t)) (posted_in (other_side side) m (account_on side t)) amount t.amount rows.amount_is in
    record {
      account = account;
      is_account = by_side (λ side. account_with (account_on side t) m.accounts ≡ Some (account side)) d c;
      ledger = by_side (λ side. (account side).ledger ≡ t.ledger) (sym ledger) (sym (ledger ∙ same));
      differ = rows.own.1.1.1.1.0;
      fits = by_side (λ side. total_in side m (account_on side t) + t.amount ≤ max_amount) (fits Debit rows.room.1.1.1.1.0) (fits Credit rows.room.1.1.1.1.1.0);
      limit = by_side (λ side. limits_side side (account side).flags ≡ true → total_in side m (account_on side t) + t.amount ≤ posted_in (other_side side) m (account_on side t)) (limit Debit rows.limits.0) (limit Credit rows.limits.1.0);
    }

-- the results at equal accounts
rows_at : (t : Transfer) (a d b c : AccountWithBalances) → a ≡ d → b ≡ c → NewRows t a b (amount_balanced a b (event_of_transfer t)) → NewRows t d c (amount_balanced d c (event_of_transfer t))
rows_at t a d b c of_debit of_credit = subst₂ (λ (x : AccountWithBalances) (y : AccountWithBalances). NewRows t x y (amount_balanced x y (event_of_transfer t))) of_debit of_credit

-- the accounts of any other next entry are there, and have room for it
pub next_single_or_pending : (m : Machine) (t : Transfer) → IsNextTransfer m t → is_post_or_void t.flags ≡ false → NextSingleOrPending m t
next_single_or_pending m t next new =
    let ev = event_of_transfer t in
    let f = facts_of m ev in
    let a = accepted_single_or_pending f ev (verdict_of m t next) new in
    let d = account_parts m t.debit_account_id a.debit (sym (own_account_of Debit m ev new) ∙ a.is_debit) in
    let c = account_parts m t.credit_account_id a.credit (sym (own_account_of Credit m ev new) ∙ a.is_credit) in
    let amount = sym (ap (λ (x : Transfer). x.amount) next.stored) ∙ single_or_pending_amount f ev a.debit a.credit new a.is_debit a.is_credit in
    let rows : NewRows t a.debit a.credit (amount_balanced a.debit a.credit ev) = record { amount_is = amount; own = a.own; ledgers = a.ledgers; room = a.room; limits = a.limits } in
    new_from_rows m t d.0 c.0 (amount_balanced (with_balances_of m t.debit_account_id d.0) (with_balances_of m t.credit_account_id c.0) ev) d.1 c.1 (rows_at t a.debit (with_balances_of m t.debit_account_id d.0) a.credit (with_balances_of m t.credit_account_id c.0) d.2 c.2 rows)
