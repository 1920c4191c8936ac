-- An accepted event that is sent again to a later machine exists there.
use Rattle.std.proofs.Common.{◌≡◌, ℕ, Bool, true, false, not, min, ◌&&◌, ◌||◌, eqb, ltb, cond, Option, Some, None, inl, inr, refl, sym, ap, ◌∙◌, subst, arith}
use Rattle.std.specs.Option.{option_map}
use Rattle.std.proofs.lemmas.Bool.{cases_Bool}
use Rattle.std.proofs.lemmas.Bool.Decides.{nat_tests}
use Rattle.records.specs.declared.account.Account.{Account}
use Rattle.records.specs.declared.account.AccountEvent.{AccountEvent}
use Rattle.records.specs.declared.account_result.AccountResult.TheVariants as account_answer
use Rattle.records.specs.declared.transfer.Transfer.{Transfer}
use Rattle.records.specs.declared.transfer.TransferEvent.{TransferEvent}
use Rattle.records.specs.declared.transfer_result.TransferResult.TheVariants as transfer_answer
use Rattle.records.specs.declared.facts.PendingTransfer.{PendingTransfer}
use Rattle.records.specs.declared.facts.ExistingTransfer.{ExistingTransfer}
use Rattle.records.specs.declared.facts.TransferFacts.{TransferFacts}
use Rattle.records.specs.Flags.{is_post, is_void, is_post_or_void, is_pending, is_balancing, is_balancing_debit, is_balancing_credit}
use Rattle.records.specs.Machine.{Machine, max_amount, account_with, transfer_with}
use Rattle.records.specs.Facts.{facts_of, with_pending_amount, pending_amount_in}
use Rattle.records.specs.FirstOf.{first_of}
use Rattle.records.specs.ActualAmount.{room_on}
use Rattle.records.specs.declared.side.Side.TheVariants.{Debit, Credit}
use Rattle.records.specs.StoredRecord.{stored_account, stored_transfer, field_from}
use Rattle.records.specs.AccountVerdict.{account_verdict, account_id_verdict, account_event_results, account_difference, account_difference_results}
use Rattle.records.specs.TransferVerdict.{transfer_verdict, transfer_event_results, transfer_difference, transfer_difference_results, transfer_detail_results, amount_differs}
use Rattle.records.specs.Step.{account_verdict_in, transfer_verdict_in, after_account, after_transfer}
use Rattle.records.specs.Later.{Extends, IsLater}
use Rattle.engine.proofs.ExtendedLists.{find_extends, find_new, extends_without}
use Rattle.engine.proofs.FirstOfLemmas.{AllFail, none_from_all_fail, or_else-none, or_else-from_none}
use Rattle.engine.proofs.FactsLemmas.{existing_of, existing_parts, pending_of, pending_parts}
use Rattle.engine.proofs.AcceptedEventLemmas.{accepted_new_id, accepted_post_or_void, accepted_single_or_pending}
use Rattle.engine.proofs.SentAgainLemmas.{post_or_void_amount, single_or_pending_amount}
use Rattle.engine.proofs.PostOrVoidLemmas.{asked, ended}

differs_not : (n : ℕ) → not (eqb n n) ≡ false
differs_not n = grind (arith, nat_tests)

-- accounts

unknown_by : (old : Option Account) (ev : AccountEvent) → account_id_verdict old ev ≡ None → old ≡ None
unknown_by None ev h = refl
unknown_by (Some old) ev h = let inner = or_else-none (account_difference old ev) _ h in grind (arith, inner.1)

pub account_exists : (m later : Machine) (ev : AccountEvent) (timestamp : ℕ) → account_verdict_in m ev ≡ None → IsLater (after_account m ev timestamp) later → account_verdict_in later ev ≡ Some account_answer.Exists
unfolding account_verdict_in account_verdict after_account
account_exists m later ev timestamp h more =
    let parts = or_else-none (first_of (account_event_results ev)) (account_id_verdict (account_with ev.id m.accounts) ev) h in
    let found = find_new (λ (a : Account). a.id) m.accounts later.accounts (stored_account ev timestamp) (unknown_by (account_with ev.id m.accounts) ev parts.1) more.accounts in
    rw (parts.0, found)
    (rw (none_from_all_fail (account_difference_results (stored_account ev timestamp) ev) (differs_not ev.flags.0, (differs_not ev.user_data_128, (differs_not ev.user_data_64, (differs_not ev.user_data_32, (differs_not ev.ledger, (differs_not ev.code, tt))))))) refl)

-- transfers

-- a field that is stored as it is given, or taken from the pending transfer where it is left 0
taken_or_given : (ends : Bool) (field : Transfer → ℕ) (pending : Option PendingTransfer) (given : ℕ) → (not (eqb given (field_from field (cond ends pending None) given)) && not (ends && eqb given 0)) ≡ false
taken_or_given true field None given = grind (arith, nat_tests)
taken_or_given true field (Some p) given = grind (arith, nat_tests)
taken_or_given false field pending given = grind (arith, nat_tests)

-- the amount of a post or void, compared with what it asked for
ending_differs_not : (limit : ℕ) (void post : Bool) (pending amount : ℕ) (other : Bool) → (post || void) ≡ true → (post ≡ true → void ≡ false) → ltb pending (asked limit post pending amount) ≡ false → (void && not (eqb amount 0) && ltb amount pending) ≡ false → cond void (not (eqb amount 0) && not (eqb amount (ended limit void post pending amount))) (cond post (not (eqb (asked limit post pending amount) (ended limit void post pending amount))) other) ≡ false
ending_differs_not limit true true pending amount other either one fits whole = absurd (grind (arith, one refl))
ending_differs_not limit true false pending amount other either one fits whole = grind (arith, nat_tests)
ending_differs_not limit false true pending amount other either one fits whole = differs_not (asked limit true pending amount)
ending_differs_not limit false false pending amount other either one fits whole = absurd (cc)

-- and that of any other transfer, which is lowered at most
abbrev lowered : Bool → ℕ → ℕ → ℕ
lowered flag room amount = cond flag (min amount room) amount

new_differs_not : (at_credit at_debit : Bool) (of_credit of_debit amount : ℕ) → cond (at_debit || at_credit) (ltb amount (lowered at_credit of_credit (lowered at_debit of_debit amount))) (not (eqb amount (lowered at_credit of_credit (lowered at_debit of_debit amount)))) ≡ false
new_differs_not true true of_credit of_debit amount = grind (arith, nat_tests)
new_differs_not true false of_credit of_debit amount = grind (arith, nat_tests)
new_differs_not false true of_credit of_debit amount = grind (arith, nat_tests)
new_differs_not false false of_credit of_debit amount = differs_not amount

-- flags that exclude each other
one_end : (pending ending post void balancing : Bool) → (pending && ending || post && void || ending && balancing) ≡ false → post ≡ true → void ≡ false
one_end pending ending post void balancing h is = grind arith

balancing_new : (post void : Bool) (x y z : Bool) → (post || void) ≡ false → cond void x (cond post y z) ≡ z
balancing_new post void x y z h = grind arith

-- the stored transfer of an accepted post or void has the amount that it asked for
ending_same : (m later : Machine) (ev : TransferEvent) (timestamp : ℕ) → transfer_verdict (facts_of m ev) ev ≡ None → is_post_or_void ev.flags ≡ true → Extends m.transfers later.transfers → let e = stored_transfer (facts_of m ev) ev timestamp m.clock in amount_differs e (pending_amount_in later e) ev ≡ false
ending_same m later ev timestamp h ends more =
    let f = facts_of m ev in
    let a = accepted_post_or_void f ev h ends in
    let parts = pending_parts m a.pending (transfer_with ev.pending_id m.transfers) (sym (pending_of m ev ends) ∙ a.is_pending) in
    let pending = a.pending.transfer.amount in
    let e = stored_transfer f ev timestamp m.clock in
    let found : transfer_with ev.pending_id later.transfers ≡ Some parts.0 = subst (λ xs. transfer_with ev.pending_id xs ≡ Some parts.0) (sym more.1) (find_extends (λ (t : Transfer). t.id) ev.pending_id m.transfers more.0 parts.0 parts.1) in
    let same : pending_amount_in later e ≡ pending = rw (ends, found) (ap (λ (p : PendingTransfer). p.transfer.amount) (sym parts.2)) in
    let amount : e.amount ≡ ended max_amount (is_void ev.flags) (is_post ev.flags) pending ev.amount = post_or_void_amount f ev a.pending ends a.is_pending in
    let one = one_end (is_pending ev.flags) (is_post_or_void ev.flags) (is_post ev.flags) (is_void ev.flags) (is_balancing ev.flags) (accepted_new_id f ev h).first.1.0 in
    rw (same, amount) (ending_differs_not max_amount (is_void ev.flags) (is_post ev.flags) pending ev.amount _ ends one a.rows.1.1.1.1.1.0 a.rows.1.1.1.1.1.1.0)

-- and that of any other event
new_same : (m : Machine) (ev : TransferEvent) (timestamp pending : ℕ) → transfer_verdict (facts_of m ev) ev ≡ None → is_post_or_void ev.flags ≡ false → amount_differs (stored_transfer (facts_of m ev) ev timestamp m.clock) pending ev ≡ false
new_same m ev timestamp pending h new =
    let f = facts_of m ev in
    let a = accepted_single_or_pending f ev h new in
    let amount = single_or_pending_amount f ev a.debit a.credit new a.is_debit a.is_credit in
    balancing_new (is_post ev.flags) (is_void ev.flags) _ _ _ new
    ∙ rw amount (new_differs_not (is_balancing_credit ev.flags) (is_balancing_debit ev.flags) (room_on Credit a.credit.balances) (room_on Debit a.debit.balances) ev.amount)

amount_same : (m later : Machine) (ev : TransferEvent) (timestamp : ℕ) → transfer_verdict (facts_of m ev) ev ≡ None → Extends m.transfers later.transfers → let e = stored_transfer (facts_of m ev) ev timestamp m.clock in amount_differs e (pending_amount_in later e) ev ≡ false
amount_same m later ev timestamp h more = elim (cases_Bool (is_post_or_void ev.flags)) [
  | inl ends ↦ ending_same m later ev timestamp h ends more
  | inr new ↦ new_same m ev timestamp (pending_amount_in later (stored_transfer (facts_of m ev) ev timestamp m.clock)) h new
]

-- the transfer of an accepted event does not differ from it
no_difference : (m later : Machine) (ev : TransferEvent) (timestamp : ℕ) → transfer_verdict (facts_of m ev) ev ≡ None → Extends m.transfers later.transfers → let e = stored_transfer (facts_of m ev) ev timestamp m.clock in transfer_difference e (pending_amount_in later e) ev ≡ None
no_difference m later ev timestamp h more =
    let f = facts_of m ev in
    let e = stored_transfer f ev timestamp m.clock in
    let taken = λ (field : Transfer → ℕ) (given : ℕ). taken_or_given (is_post_or_void ev.flags) field f.pending given in
    or_else-from_none (first_of (transfer_difference_results e (pending_amount_in later e) ev)) (first_of (transfer_detail_results e ev))
    (none_from_all_fail (transfer_difference_results e (pending_amount_in later e) ev) (differs_not ev.flags.0, (differs_not ev.pending_id, (differs_not ev.timeout, (taken (λ t. t.debit_account_id) ev.debit_account_id, (taken (λ t. t.credit_account_id) ev.credit_account_id, (amount_same m later ev timestamp h more, tt)))))))
    (none_from_all_fail (transfer_detail_results e ev) (taken (λ t. t.user_data_128) ev.user_data_128, (taken (λ t. t.user_data_64) ev.user_data_64, (taken (λ t. t.user_data_32) ev.user_data_32, (taken (λ t. t.ledger) ev.ledger, (taken (λ t. t.code) ev.code, tt))))))

exists_by : (f : TransferFacts) (ev : TransferEvent) (old : ExistingTransfer) → AllFail (transfer_event_results ev) → f.existing ≡ Some old → transfer_difference old.transfer old.pending_amount ev ≡ None → transfer_verdict f ev ≡ Some transfer_answer.Exists
unfolding transfer_verdict
exists_by f ev old own is same = rw (none_from_all_fail (transfer_event_results ev) own, is) (rw same refl)

pub transfer_exists : (m later : Machine) (ev : TransferEvent) (timestamp : ℕ) → transfer_verdict_in m ev ≡ None → IsLater (after_transfer m ev timestamp) later → transfer_verdict_in later ev ≡ Some transfer_answer.Exists
unfolding transfer_verdict_in after_transfer
transfer_exists m later ev timestamp h more =
    let f = facts_of m ev in
    let e = stored_transfer f ev timestamp m.clock in
    let new_id = accepted_new_id f ev h in
    let unknown = existing_parts m (transfer_with ev.id m.transfers) (sym (existing_of m ev) ∙ new_id.unknown) in
    let found = find_new (λ (t : Transfer). t.id) m.transfers later.transfers e unknown more.transfers in
    let same = no_difference m later ev timestamp h (extends_without m.transfers later.transfers e more.transfers) in
    exists_by (facts_of later ev) ev (with_pending_amount later e) new_id.event (existing_of later ev ∙ ap (option_map (with_pending_amount later)) found) same
