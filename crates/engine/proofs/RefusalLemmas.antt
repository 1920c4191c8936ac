-- What results of verdicts are: none is that of an accepted event, and an id that fails for good can fail.
use Rattle.std.proofs.Common.{◌≡◌, ◌≢◌, ◌<◌, ◌-◌, ◌^◌, ℕ, Bool, true, false, not, eqb, cond, List, [], ◌∷◌, Option, Some, None, refl, ◌∙◌, sym, subst, arith}
use Rattle.std.proofs.lemmas.Option.{same_Some}
use Rattle.std.proofs.lemmas.Bool.{both_ways}
use Rattle.records.specs.declared.account.Account.{Account}
use Rattle.records.specs.declared.account.AccountEvent.{AccountEvent}
use Rattle.records.specs.declared.account_result.AccountResult.{AccountResult}
use Rattle.records.specs.declared.account_result.AccountResult.TheVariants as account_answer
use Rattle.records.specs.declared.transfer.TransferEvent.{TransferEvent}
use Rattle.records.specs.declared.transfer_result.TransferResult.{TransferResult}
use Rattle.records.specs.declared.transfer_result.TransferResult.TheVariants as transfer_answer
use Rattle.records.specs.declared.facts.AccountWithBalances.{AccountWithBalances}
use Rattle.records.specs.declared.facts.PendingTransfer.{PendingTransfer}
use Rattle.records.specs.declared.facts.ExistingTransfer.{ExistingTransfer}
use Rattle.records.specs.declared.facts.TransferFacts.{TransferFacts}
use Rattle.records.specs.AccountResultNames as for_accounts
use Rattle.records.specs.TransferResultNames as for_transfers
use Rattle.records.specs.Flags.{is_post_or_void}
use Rattle.records.specs.Machine.{Machine, account_with, transfer_with}
use Rattle.records.specs.Widths.{IsTransferEventInWidth}
use Rattle.records.specs.Valid.{IsNextFailed}
use Rattle.records.specs.Facts.{facts_of}
use Rattle.records.specs.FirstOf.{first_of, or_else}
use Rattle.records.specs.ActualAmount.{amount_balanced}
use Rattle.records.specs.AccountVerdict.{account_verdict, account_id_verdict, account_event_results, account_difference, account_difference_results, new_account_results}
use Rattle.records.specs.TransferVerdict.{transfer_verdict, transfer_id_verdict, transfer_event_results, new_transfer_results, new_transfer_verdict, post_or_void_verdict, post_or_void_results, pending_transfer_verdict, pending_transfer_results, single_or_pending_verdict, single_or_pending_results, accounts_verdict, room_verdict, ledger_results, overflow_results, limit_results, transfer_difference, transfer_difference_results, transfer_detail_results, fails_for_good}
use Rattle.records.specs.Step.{account_verdict_in, transfer_verdict_in, failed_transfer_id}
use Rattle.engine.proofs.FirstOfLemmas.{AllFail, all_fail}
use Rattle.engine.proofs.FactsLemmas.{existing_of, existing_parts}
use Rattle.std.proofs.lemmas.Bool.Decides.{nat_tests}

-- a result that passes a test, where there is one
abbrev pub Passes : {R : Type 0} → (R → Bool) → Option R → Type 0
Passes test None = Unit {0}
Passes test (Some result) = test result ≡ true

-- every result of a table passes
abbrev AllPass : {R : Type 0} → (R → Bool) → List (Bool × R) → Type 0
AllPass test [] = Unit {0}
AllPass test (row ∷ rows) = (test row.1 ≡ true) × AllPass test rows

by_row : {R : Type 0} (test : R → Bool) (holds : Bool) (result : R) (rest : Option R) → test result ≡ true → Passes test rest → Passes test (cond holds (Some result) rest)
by_row test true result rest h k = h
by_row test false result rest h k = k

first_passes : {R : Type 0} (test : R → Bool) (rows : List (Bool × R)) → AllPass test rows → Passes test (first_of rows)
first_passes test [] h = tt
first_passes test (row ∷ rows) h = by_row test row.0 row.1 (first_of rows) h.0 (first_passes test rows h.1)

else_passes : {R : Type 0} (test : R → Bool) (first next : Option R) → Passes test first → Passes test next → Passes test (or_else first next)
else_passes test None next h k = k
else_passes test (Some result) next h k = h

either_passes : {R : Type 0} (test : R → Bool) (b : Bool) (x y : Option R) → Passes test x → Passes test y → Passes test (cond b x y)
either_passes test true x y h k = h
either_passes test false x y h k = k

-- accounts

abbrev is_account_refusal : AccountResult → Bool
is_account_refusal result = not (eqb (for_accounts.number_of result) 0)

account_id_passes : (old : Option Account) (ev : AccountEvent) → Passes is_account_refusal (account_id_verdict old ev)
account_id_passes (Some old) ev = else_passes is_account_refusal (account_difference old ev) (Some account_answer.Exists) (first_passes is_account_refusal (account_difference_results old ev) (refl, (refl, (refl, (refl, (refl, (refl, tt))))))) refl
account_id_passes None ev = first_passes is_account_refusal (new_account_results ev) (refl, (refl, (refl, (refl, (refl, (refl, (refl, tt)))))))

account_passes : (old : Option Account) (ev : AccountEvent) → Passes is_account_refusal (account_verdict old ev)
unfolding account_verdict
account_passes old ev = else_passes is_account_refusal (first_of (account_event_results ev)) (account_id_verdict old ev) (first_passes is_account_refusal (account_event_results ev) (refl, (refl, (refl, (refl, tt))))) (account_id_passes old ev)

not_accepted_account : (result : AccountResult) → is_account_refusal result ≡ true → result ≢ account_answer.Accepted
not_accepted_account result h same = absurd (cc)

pub accounts_refuse : (m : Machine) (ev : AccountEvent) (result : AccountResult) → account_verdict_in m ev ≡ Some result → result ≢ account_answer.Accepted
unfolding account_verdict_in
accounts_refuse m ev result h = not_accepted_account result (subst (Passes is_account_refusal) h (account_passes (account_with ev.id m.accounts) ev))

-- transfers

abbrev is_transfer_refusal : TransferResult → Bool
is_transfer_refusal result = not (eqb (for_transfers.number_of result) 0)

pending_passes : (pending : Option PendingTransfer) (ev : TransferEvent) → Passes is_transfer_refusal (pending_transfer_verdict pending ev)
pending_passes None ev = refl
pending_passes (Some p) ev = first_passes is_transfer_refusal (pending_transfer_results p ev) (refl, (refl, (refl, (refl, (refl, (refl, (refl, (refl, (refl, (refl, tt))))))))))

accounts_pass : (debit credit : Option AccountWithBalances) (ev : TransferEvent) → Passes is_transfer_refusal (accounts_verdict debit credit ev)
accounts_pass None credit ev = refl
accounts_pass (Some d) None ev = refl
accounts_pass (Some d) (Some c) ev =
    let amount = amount_balanced d c ev in
    else_passes is_transfer_refusal (first_of (ledger_results d c ev)) (room_verdict d c amount ev) (first_passes is_transfer_refusal (ledger_results d c ev) (refl, (refl, tt)))
    (else_passes is_transfer_refusal (first_of (overflow_results d c amount ev)) (first_of (limit_results d c amount)) (first_passes is_transfer_refusal (overflow_results d c amount ev) (refl, (refl, (refl, (refl, (refl, (refl, tt))))))) (first_passes is_transfer_refusal (limit_results d c amount) (refl, (refl, tt))))

new_passes : (f : TransferFacts) (ev : TransferEvent) → Passes is_transfer_refusal (new_transfer_verdict f ev)
new_passes f ev =
    else_passes is_transfer_refusal (first_of (new_transfer_results f ev)) (cond (is_post_or_void ev.flags) (post_or_void_verdict f ev) (single_or_pending_verdict f ev)) (first_passes is_transfer_refusal (new_transfer_results f ev) (refl, (refl, tt)))
    (either_passes is_transfer_refusal (is_post_or_void ev.flags) (post_or_void_verdict f ev) (single_or_pending_verdict f ev)
    (else_passes is_transfer_refusal (first_of (post_or_void_results ev)) (pending_transfer_verdict f.pending ev) (first_passes is_transfer_refusal (post_or_void_results ev) (refl, (refl, (refl, (refl, tt))))) (pending_passes f.pending ev))
    (else_passes is_transfer_refusal (first_of (single_or_pending_results ev)) (accounts_verdict f.debit f.credit ev) (first_passes is_transfer_refusal (single_or_pending_results ev) (refl, (refl, (refl, (refl, (refl, (refl, (refl, (refl, (refl, tt)))))))))) (accounts_pass f.debit f.credit ev)))

-- what follows from an existing transfer passes each test that its results pass
existing_passes : (test : TransferResult → Bool) (old : ExistingTransfer) (ev : TransferEvent) → AllPass test (transfer_difference_results old.transfer old.pending_amount ev) → AllPass test (transfer_detail_results old.transfer ev) → test transfer_answer.Exists ≡ true → Passes test (or_else (transfer_difference old.transfer old.pending_amount ev) (Some transfer_answer.Exists))
existing_passes test old ev main detail exists =
    else_passes test (transfer_difference old.transfer old.pending_amount ev) (Some transfer_answer.Exists)
    (else_passes test (first_of (transfer_difference_results old.transfer old.pending_amount ev)) (first_of (transfer_detail_results old.transfer ev)) (first_passes test (transfer_difference_results old.transfer old.pending_amount ev) main) (first_passes test (transfer_detail_results old.transfer ev) detail))
    exists

transfer_id_passes : (old : Option ExistingTransfer) (f : TransferFacts) (ev : TransferEvent) → Passes is_transfer_refusal (transfer_id_verdict old f ev)
transfer_id_passes (Some old) f ev = existing_passes is_transfer_refusal old ev (refl, (refl, (refl, (refl, (refl, (refl, tt)))))) (refl, (refl, (refl, (refl, (refl, tt))))) refl
transfer_id_passes None f ev = new_passes f ev

transfer_passes : (f : TransferFacts) (ev : TransferEvent) → Passes is_transfer_refusal (transfer_verdict f ev)
unfolding transfer_verdict
transfer_passes f ev = else_passes is_transfer_refusal (first_of (transfer_event_results ev)) (transfer_id_verdict f.existing f ev) (first_passes is_transfer_refusal (transfer_event_results ev) (refl, (refl, (refl, (refl, tt))))) (transfer_id_passes f.existing f ev)

not_accepted_transfer : (result : TransferResult) → is_transfer_refusal result ≡ true → result ≢ transfer_answer.Accepted
not_accepted_transfer result h same = absurd (cc)

pub transfers_refuse : (m : Machine) (ev : TransferEvent) (result : TransferResult) → transfer_verdict_in m ev ≡ Some result → result ≢ transfer_answer.Accepted
unfolding transfer_verdict_in
transfers_refuse m ev result h = not_accepted_transfer result (subst (Passes is_transfer_refusal) h (transfer_passes (facts_of m ev) ev))

-- an event that fails for good has an id that a transfer may have, and none has

abbrev can_retry : TransferResult → Bool
can_retry result = not (fails_for_good result)

passed_by : {R : Type 0} (test : R → Bool) (first next : Option R) (result : R) → Passes test first → or_else first next ≡ Some result → test result ≡ false → (first ≡ None) × (next ≡ Some result)
passed_by test None next result h is fails = (refl, is)
passed_by test (Some other) next result h is fails = let same = same_Some other result is in absurd (both_ways (test result) fails (subst (λ x. test x ≡ true) same h))

none_exists : (old : Option ExistingTransfer) (f : TransferFacts) (ev : TransferEvent) (result : TransferResult) → transfer_id_verdict old f ev ≡ Some result → can_retry result ≡ false → old ≡ None
none_exists None f ev result h fails = refl
none_exists (Some old) f ev result h fails =
    let passes = existing_passes can_retry old ev (refl, (refl, (refl, (refl, (refl, (refl, tt)))))) (refl, (refl, (refl, (refl, (refl, tt))))) refl in
    absurd (both_ways (can_retry result) fails (subst (Passes can_retry) h passes))

-- what such a verdict says of the facts
pub record FailsForGood (f : TransferFacts) (ev : TransferEvent) : Type 0 where
  pub event : AllFail (transfer_event_results ev)
  pub unknown : f.existing ≡ None

pub fails_by_facts : (f : TransferFacts) (ev : TransferEvent) (result : TransferResult) → transfer_verdict f ev ≡ Some result → fails_for_good result ≡ true → FailsForGood f ev
unfolding transfer_verdict
fails_by_facts f ev result h good =
    let fails : can_retry result ≡ false = rw good refl in
    let parts = passed_by can_retry (first_of (transfer_event_results ev)) (transfer_id_verdict f.existing f ev) result (first_passes can_retry (transfer_event_results ev) (refl, (refl, (refl, (refl, tt))))) h fails in
    record { event = all_fail (transfer_event_results ev) parts.0; unknown = none_exists f.existing f ev result parts.1 fails }

-- the id that stays failed
pub failed_parts : (ev : TransferEvent) (good : Bool) (id : ℕ) → cond good (Some ev.id) None ≡ Some id → (good ≡ true) × (ev.id ≡ id)
failed_parts ev true id h = (refl, same_Some ev.id id h)
failed_parts ev false id h = absurd (cc)

positive : (id : ℕ) → eqb id 0 ≡ false → 0 < id
positive id h = grind (arith, nat_tests)

below_max : (id bound : ℕ) → id < bound → eqb id (bound - 1) ≡ false → id < bound - 1
below_max id bound width h = grind (arith, nat_tests)

proper_id : (id : ℕ) → id < 2 ^ 128 → eqb id 0 ≡ false → eqb id (2 ^ 128 - 1) ≡ false → (0 < id) × (id < 2 ^ 128 - 1)
proper_id id width zero max = (positive id zero, below_max id (2 ^ 128) width max)

pub transfer_fails : (m : Machine) (ev : TransferEvent) (result : TransferResult) (id : ℕ) → IsTransferEventInWidth ev → transfer_verdict_in m ev ≡ Some result → failed_transfer_id ev result ≡ Some id → IsNextFailed m id
unfolding transfer_verdict_in
transfer_fails m ev result id width h failed =
    let own = failed_parts ev (fails_for_good result) id failed in
    let f = fails_by_facts (facts_of m ev) ev result h own.0 in
    let ids = proper_id ev.id width.id f.event.1.1.0 f.event.1.1.1.0 in
    let unknown = existing_parts m (transfer_with ev.id m.transfers) (sym (existing_of m ev) ∙ f.unknown) in
    subst (IsNextFailed m) own.1 (record { positive = ids.0; below_max = ids.1; unknown = unknown })
