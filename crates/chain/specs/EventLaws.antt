-- What holds of every kind of event: it keeps the machine in its batch, and the id of one that
-- fails for good has not failed before and is no entry's.
use Rattle.std.specs.Prelude.{◌≡◌, ◌≢◌, ℕ, ◌+◌, ◌<◌, ◌≤◌, Bool, true, false, List, [], ◌∷◌, ◌++◌}
use Rattle.std.specs.Prelude.{Option, Some, None, ◌==◌, if◌then◌else◌}
use Rattle.std.specs.Option.{option_map}
use Rattle.std.proofs.Common.{arith, ◌∙◌, sym, refl, subst}
use Rattle.std.proofs.lemmas.Bool.Decides.{nat_tests}
use Rattle.std.proofs.lemmas.List.Elements.{All-weaker, All-push}
use Rattle.records.specs.declared.account.Account.{Account}
use Rattle.records.specs.declared.transfer.Transfer.{Transfer}
use Rattle.records.specs.declared.transfer.TransferEvent.{TransferEvent}
use Rattle.records.specs.declared.transfer_result.TransferResult.{TransferResult}
use Rattle.records.specs.declared.transfer_result.TransferResult.TheVariants as answer
use Rattle.records.specs.declared.facts.TransferFacts.{TransferFacts}
use Rattle.records.specs.Machine.{Machine, max_amount, has_id, transfer_with}
use Rattle.records.specs.Flags.{is_post_or_void}
use Rattle.records.specs.FirstOf.{first_of, or_else}
use Rattle.records.specs.Facts.{facts_of, with_pending_amount, pending_amount_in}
use Rattle.records.specs.TransferVerdict.{transfer_verdict, fails_for_good}
use Rattle.records.specs.TransferVerdict.{transfer_event_results, transfer_id_verdict}
use Rattle.records.specs.TransferVerdict.{transfer_difference}
use Rattle.records.specs.TransferVerdict.{new_transfer_verdict, post_or_void_verdict}
use Rattle.records.specs.TransferVerdict.{single_or_pending_verdict}
use Rattle.records.specs.TransferVerdict.{transfer_difference_results, transfer_detail_results}
use Rattle.records.specs.TransferVerdict.{new_transfer_results}
use Rattle.records.specs.StoredRecord.{stored_account, stored_transfer}
use Rattle.records.specs.Chains.{Rules}
use Rattle.records.specs.Step.{account_rules, transfer_rules, after_account, after_transfer}
use Rattle.records.specs.Step.{transfer_verdict_in, failed_transfer_id}
use Rattle.chain.specs.InBatch.{IsInBatch}

-- an id that has not failed and is no entry's
pub record IsUnused (m : Machine) (id : ℕ) : Type 0 where
  pub not_zero : id ≢ 0
  pub not_max : id ≢ max_amount
  pub unknown : transfer_with id m.transfers ≡ None
  pub unrecorded : has_id id m.failed ≡ false

-- an event keeps its machine in its batch
abbrev pub KeepsBatch : {E R : Type 0} → Rules E R → Type 0
KeepsBatch {E} rules =
    (m : Machine) (ev : E) (timestamp clock : ℕ) →
    IsInBatch m clock timestamp → IsInBatch (rules.after m ev timestamp) clock (timestamp + 1)

-- an id that was used stays so
abbrev pub KeepsUsed : {E R : Type 0} → Rules E R → Type 0
KeepsUsed {E} rules =
    (m : Machine) (ev : E) (timestamp id : ℕ) →
    IsUnused (rules.after m ev timestamp) id → IsUnused m id

-- the laws of a kind of event; one that fails for good has an unused id
pub record EventLaws {E R : Type 0} (rules : Rules E R) : Type 0 where
  pub keeps_batch : KeepsBatch rules
  pub was_unused : KeepsUsed rules
  pub fails_unused :
      (m : Machine) (ev : E) (r : R) (id : ℕ) →
      rules.verdict m ev ≡ Some r → rules.failed_id ev r ≡ Some id → IsUnused m id

-- a later timestamp
pub stays_later :
    (m : Machine) (clock timestamp next : ℕ) → IsInBatch m clock timestamp → timestamp ≤ next →
    IsInBatch m clock next
stays_later m clock timestamp next before later = record {
  at = before.at;
  after_accounts =
      All-weaker (λ (a : Account). a.timestamp < timestamp) (λ a. a.timestamp < next)
      (λ a h. omega arith) m.accounts before.after_accounts;
  after_transfers =
      All-weaker (λ (t : Transfer). t.timestamp < timestamp) (λ t. t.timestamp < next)
      (λ t h. omega arith) m.transfers before.after_transfers;
}

account_keeps_batch : KeepsBatch account_rules
unfolding after_account
account_keeps_batch m ev timestamp clock before =
    let older = stays_later m clock timestamp (timestamp + 1) before (omega arith) in record {
      at = before.at;
      after_accounts =
          All-push (λ (a : Account). a.timestamp < timestamp + 1) m.accounts
          (stored_account ev timestamp) older.after_accounts (omega arith);
      after_transfers = older.after_transfers;
    }

transfer_keeps_batch : KeepsBatch transfer_rules
unfolding after_transfer
transfer_keeps_batch m ev timestamp clock before =
    let older = stays_later m clock timestamp (timestamp + 1) before (omega arith) in record {
      at = before.at;
      after_accounts = older.after_accounts;
      after_transfers =
          All-push (λ (t : Transfer). t.timestamp < timestamp + 1) m.transfers
          (stored_transfer (facts_of m ev) ev timestamp m.clock) older.after_transfers
          (omega arith);
    }

account_was_unused : KeepsUsed account_rules
unfolding after_account
account_was_unused m ev timestamp id unused = record {
  not_zero = unused.not_zero;
  not_max = unused.not_max;
  unknown = unused.unknown;
  unrecorded = unused.unrecorded;
}

not_first :
    (b : Bool) (x : Transfer) (rest : Option Transfer) → (if b then Some x else rest) ≡ None →
    (b ≡ false) × (rest ≡ None)
not_first true x rest none = absurd (grind arith)
not_first false x rest none = (refl, none)

-- no entry of a longer list has the id, so none of the list has
not_before :
    (id : ℕ) (entries : List Transfer) (entry : Transfer) →
    transfer_with id (entries ++ entry ∷ []) ≡ None → transfer_with id entries ≡ None
not_before id [] entry none = refl
not_before id (first ∷ entries) entry none =
    let later = not_first (first.id == id) first (transfer_with id (entries ++ entry ∷ [])) none in
    rw later.0 (not_before id entries entry later.1)

transfer_was_unused : KeepsUsed transfer_rules
unfolding after_transfer
transfer_was_unused m ev timestamp id unused = record {
  not_zero = unused.not_zero;
  not_max = unused.not_max;
  unknown = not_before id m.transfers _ unused.unknown;
  unrecorded = unused.unrecorded;
}

-- rows none of whose results fails for good
NoneForGood : List (Bool × TransferResult) → Type 0
NoneForGood [] = Unit {0}
NoneForGood (row ∷ rows) = (fails_for_good row.1 ≡ false) × NoneForGood rows

is_not :
    (x r : TransferResult) → fails_for_good x ≡ false → fails_for_good r ≡ true → Some x ≡ Some r →
    ⊥
is_not x r not good same = grind arith

-- a verdict that fails for good comes from behind such rows, none of which holds
behind :
    (rows : List (Bool × TransferResult)) (rest : Option TransferResult) (r : TransferResult) →
    NoneForGood rows → fails_for_good r ≡ true → or_else (first_of rows) rest ≡ Some r →
    (first_of rows ≡ None) × (rest ≡ Some r)
unfolding NoneForGood
behind [] rest r none good verdict = (refl, verdict)
behind (row ∷ rows) rest r none good verdict =
    elim row.0 as (λ b. or_else (if b then Some row.1 else first_of rows) rest ≡ Some r →
    ((if b then Some row.1 else first_of rows) ≡ None) × (rest ≡ Some r)) [
      | true ↦ λ h. absurd (is_not row.1 r none.0 good h)
      | false ↦ λ h. behind rows rest r none.1 good h
    ] verdict

no_row :
    (b : Bool) (x : TransferResult) (rest : Option TransferResult) →
    (if b then Some x else rest) ≡ None → (b ≡ false) × (rest ≡ None)
no_row true x rest none = absurd (grind arith)
no_row false x rest none = (refl, none)

in_turn : (a b c : Option TransferResult) → or_else (or_else a b) c ≡ or_else a (or_else b c)
in_turn None b c = refl
in_turn (Some x) b c = refl

-- an event whose id exists does not fail for good
existing_stays :
    (old : Transfer) (pending : ℕ) (ev : TransferEvent) (r : TransferResult) →
    fails_for_good r ≡ true →
    or_else (transfer_difference old pending ev) (Some answer.Exists) ≡ Some r → ⊥
unfolding NoneForGood
existing_stays old pending ev r good verdict =
    let fields = first_of (transfer_difference_results old pending ev) in
    let details = first_of (transfer_detail_results old ev) in
    let first = behind (transfer_difference_results old pending ev)
    (or_else details (Some answer.Exists)) r (refl, (refl, (refl, (refl, (refl, (refl, tt)))))) good
    (sym (in_turn fields details (Some answer.Exists)) ∙ verdict) in
    let second = behind (transfer_detail_results old ev) (Some answer.Exists) r
    (refl, (refl, (refl, (refl, (refl, tt))))) good first.1 in
    is_not answer.Exists r refl good second.1

-- one whose id is new has an id that has not failed
new_has_not_failed :
    (f : TransferFacts) (ev : TransferEvent) (r : TransferResult) → fails_for_good r ≡ true →
    new_transfer_verdict f ev ≡ Some r → f.failed ≡ false
unfolding NoneForGood
new_has_not_failed f ev r good verdict =
    let rest = if is_post_or_void ev.flags then post_or_void_verdict f ev else
    single_or_pending_verdict f ev in
    (no_row f.failed answer.IdAlreadyFailed _
    (behind (new_transfer_results f ev) rest r (refl, (refl, tt)) good verdict).0).0

-- the event's id is no entry's and has not failed
fails_so :
    (m : Machine) (ev : TransferEvent) (r : TransferResult) → fails_for_good r ≡ true →
    transfer_id_verdict (facts_of m ev).existing (facts_of m ev) ev ≡ Some r →
    (transfer_with ev.id m.transfers ≡ None) × (has_id ev.id m.failed ≡ false)
unfolding facts_of
fails_so m ev r good verdict =
    elim (transfer_with ev.id m.transfers) as (λ found. transfer_id_verdict
    (option_map (with_pending_amount m) found) (facts_of m ev) ev ≡ Some r →
    (found ≡ None) × (has_id ev.id m.failed ≡ false)) [
      | None ↦ λ h. (refl, new_has_not_failed (facts_of m ev) ev r good h)
      | Some old ↦ λ h. absurd (existing_stays old (pending_amount_in m old) ev r good h)
    ] verdict

by_id :
    (b : Bool) (id found : ℕ) → (if b then Some found else None) ≡ Some id →
    (b ≡ true) × (found ≡ id)
by_id true id found some = (refl, grind arith)
by_id false id found some = absurd (grind arith)

apart : (a b : ℕ) → (a == b) ≡ false → a ≢ b
apart a b h same = grind (arith, nat_tests)

transfer_fails_unused :
    (m : Machine) (ev : TransferEvent) (r : TransferResult) (id : ℕ) →
    transfer_verdict_in m ev ≡ Some r → failed_transfer_id ev r ≡ Some id → IsUnused m id
unfolding transfer_verdict_in transfer_verdict NoneForGood
transfer_fails_unused m ev r id verdict fails =
    let own = by_id (fails_for_good r) id ev.id fails in
    let split = behind (transfer_event_results ev)
    (transfer_id_verdict (facts_of m ev).existing (facts_of m ev) ev) r
    (refl, (refl, (refl, (refl, tt)))) own.0 verdict in
    let so = fails_so m ev r own.0 split.1 in
    let third = (no_row _ answer.ReservedFlag _
    (no_row _ answer.TimestampMustBeZero _ split.0).1).1 in
    let zero = no_row (ev.id == 0) answer.IdMustNotBeZero _ third in
    let max = no_row (ev.id == max_amount) answer.IdMustNotBeIntMax None zero.1 in
    let unused : IsUnused m ev.id =
    record {
      not_zero = apart ev.id 0 zero.0;
      not_max = apart ev.id max_amount max.0;
      unknown =
          so.0;
      unrecorded = so.1;
    } in
    subst (IsUnused m) own.1 unused

pub account_laws : EventLaws account_rules
account_laws = record {
  keeps_batch = account_keeps_batch;
  was_unused = account_was_unused;
  fails_unused = λ m ev r id verdict none. absurd (cc);
}

pub transfer_laws : EventLaws transfer_rules
transfer_laws = record {
  keeps_batch = transfer_keeps_batch;
  was_unused = transfer_was_unused;
  fails_unused = transfer_fails_unused;
}
