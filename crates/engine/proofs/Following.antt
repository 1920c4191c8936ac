-- Every step of the machine leads to one that continues it, and what was told stays.
use Rattle.std.proofs.Common.{◌≡◌, ◌≤◌, ◌<◌, ◌+◌, ℕ, Bool, true, false, nat_lt, cond, List, [], ◌∷◌, ◌++◌, length, append-nil, append_assoc, refl, sym, ap, ◌∙◌, arith}
use Rattle.std.specs.List.{All, filter}
use Rattle.std.proofs.lemmas.List.Elements.{All-nil, All-cons, All-head, All-tail, All-append, All-weaker, filter-append}
use Rattle.records.specs.declared.account.AccountEvent.{AccountEvent}
use Rattle.records.specs.declared.transfer.TransferEvent.{TransferEvent}
use Rattle.records.specs.declared.query.Span.{Span}
use Rattle.records.specs.declared.reply.EventResult.{EventResult}
use Rattle.records.specs.Machine.{Machine, with_failed}
use Rattle.records.specs.Facts.{facts_of}
use Rattle.records.specs.StoredRecord.{stored_account, stored_transfer}
use Rattle.records.specs.Chains.{Rules, chains_of, chains_results, after_chains}
use Rattle.records.specs.Queries.{is_within, within, page_over, page_span, asked_transfer}
use Rattle.records.specs.Step.{Answered, Exhausted, account_rules, transfer_rules, after_account, after_transfer, at_clock, clock_after, first_timestamp, max_clock, with_timestamps, step_machine, step_outcome}
use Rattle.engine.specs.Following.{GoesOnBehind, MachineGoesOn, ContinuesAfter, StepsContinue, TellsClock, StepsTellClock, SpansStay, PagesStay}
use Rattle.engine.proofs.EntriesInTurn.{account_time, transfer_time}
use Rattle.engine.proofs.StepByStep.{LeadsOn, chains_lead, step_leads}

-- a list goes on behind itself by nothing, by one record more, and by what goes on behind that
same_on : {A : Type 0} (time : A → ℕ) (clock : ℕ) (xs : List A) → GoesOnBehind time clock xs xs
same_on time clock xs = record { more = []; is = sym (append-nil xs); behind = All-nil (λ it. clock < time it) }

one_on : {A : Type 0} (time : A → ℕ) (clock : ℕ) (xs : List A) (x : A) → clock < time x → GoesOnBehind time clock xs (xs ++ x ∷ [])
one_on time clock xs x behind = record { more = x ∷ []; is = refl; behind = All-cons (λ it. clock < time it) x [] behind (All-nil (λ it. clock < time it)) }

more_on : {A : Type 0} (time : A → ℕ) (clock later : ℕ) (xs ys zs : List A) → clock ≤ later → GoesOnBehind time clock xs ys → GoesOnBehind time later ys zs → GoesOnBehind time clock xs zs
more_on time clock later xs ys zs le a b = record {
  more = a.more ++ b.more;
  is = b.is ∙ ap (λ all. all ++ b.more) a.is ∙ append_assoc xs a.more b.more;
  behind = All-append (λ it. clock < time it) a.more b.more a.behind (All-weaker (λ it. later < time it) (λ it. clock < time it) (λ it h. omega arith) b.more b.behind);
}

-- and so does a machine
machine_same : (clock : ℕ) (m : Machine) → MachineGoesOn clock m m
machine_same clock m = record { accounts = same_on account_time clock m.accounts; transfers = same_on transfer_time clock m.transfers; clock = omega arith }

machine_more : (clock later : ℕ) (m n o : Machine) → clock ≤ later → MachineGoesOn clock m n → MachineGoesOn later n o → MachineGoesOn clock m o
machine_more clock later m n o le a b = record {
  accounts = more_on account_time clock later m.accounts n.accounts o.accounts le a.accounts b.accounts;
  transfers = more_on transfer_time clock later m.transfers n.transfers o.transfers le a.transfers b.transfers;
  clock = omega (arith, a.clock, b.clock);
}

pub continues_same : (m : Machine) → ContinuesAfter m m
continues_same m = machine_same m.clock m

pub continues_more : (m n o : Machine) → ContinuesAfter m n → ContinuesAfter n o → ContinuesAfter m o
continues_more m n o a b = machine_more m.clock n.clock m n o a.clock a b

-- rules whose accepted events go on behind a clock that is before their timestamp
abbrev pub GoOn : {E R : Type 0} → Rules E R → Type 0
GoOn {E} rules = (clock : ℕ) (m : Machine) (ev : E) (timestamp : ℕ) → clock + 1 ≤ timestamp → MachineGoesOn clock m (rules.after m ev timestamp)

account_on : (clock : ℕ) (m : Machine) (ev : AccountEvent) (timestamp : ℕ) → clock + 1 ≤ timestamp → MachineGoesOn clock m (after_account m ev timestamp)
unfolding after_account
account_on clock m ev timestamp le = record { accounts = one_on account_time clock m.accounts (stored_account ev timestamp) (omega arith); transfers = same_on transfer_time clock m.transfers; clock = omega arith }

transfer_on : (clock : ℕ) (m : Machine) (ev : TransferEvent) (timestamp : ℕ) → clock + 1 ≤ timestamp → MachineGoesOn clock m (after_transfer m ev timestamp)
unfolding after_transfer
transfer_on clock m ev timestamp le = record { accounts = same_on account_time clock m.accounts; transfers = one_on transfer_time clock m.transfers (stored_transfer (facts_of m ev) ev timestamp m.clock) (omega arith); clock = omega arith }

pub accounts_go_on : GoOn account_rules
accounts_go_on clock m ev timestamp le = account_on clock m ev timestamp le

pub transfers_go_on : GoOn transfer_rules
transfers_go_on clock m ev timestamp le = transfer_on clock m ev timestamp le

failed_on : (clock : ℕ) (m : Machine) (id : ℕ) → MachineGoesOn clock m (with_failed m id)
failed_on clock m id = record { accounts = same_on account_time clock m.accounts; transfers = same_on transfer_time clock m.transfers; clock = omega arith }

on_leads : {E R : Type 0} (rules : Rules E R) (clock : ℕ) → GoOn rules → LeadsOn rules (MachineGoesOn clock) (clock + 1)
on_leads rules clock on = record {
  itself = machine_same clock;
  onward = λ m n o. machine_more clock clock m n o (omega arith);
  accepts = on clock;
  fails = failed_on clock;
}

clock_on : (m : Machine) (clock : ℕ) → m.clock ≤ clock → MachineGoesOn m.clock m (at_clock m clock)
clock_on m clock le = record { accounts = same_on account_time m.clock m.accounts; transfers = same_on transfer_time m.clock m.transfers; clock = le }

pub step_continues : {E R : Type 0} (rules : Rules E R) → GoOn rules → StepsContinue rules
step_continues rules on m batch moment = step_leads rules (MachineGoesOn m.clock) (m.clock + 1) (on_leads rules m.clock on) m batch moment (omega arith) (clock_on m)

-- the events of a batch leave the clock
abbrev IsClockKept : Machine → Machine → Type 0
IsClockKept m n = n.clock ≡ m.clock

-- rules whose accepted events do
abbrev pub KeepClock : {E R : Type 0} → Rules E R → Type 0
KeepClock {E} rules = (m : Machine) (ev : E) (timestamp : ℕ) → IsClockKept m (rules.after m ev timestamp)

pub accounts_keep_clock : KeepClock account_rules
unfolding after_account
accounts_keep_clock m ev timestamp = refl

pub transfers_keep_clock : KeepClock transfer_rules
unfolding after_transfer
transfers_keep_clock m ev timestamp = refl

clock_leads : {E R : Type 0} (rules : Rules E R) → KeepClock rules → LeadsOn rules IsClockKept 0
clock_leads rules keep = record {
  itself = λ m. refl;
  onward = λ m n o a b. b ∙ a;
  accepts = λ m ev timestamp le. keep m ev timestamp;
  fails = λ m id. refl;
}

told_if : {R : Type 0} (exhausted : Bool) (m n : Machine) (clock : ℕ) (results : List (EventResult R)) → n.clock ≡ clock → TellsClock (cond exhausted Exhausted (Answered clock results)) (cond exhausted m n).clock
told_if true m n clock results same = tt
told_if false m n clock results same = sym same

pub step_tells_clock : {E R : Type 0} (rules : Rules E R) → KeepClock rules → StepsTellClock rules
unfolding step_machine step_outcome
step_tells_clock rules keep m batch moment =
    let clock = clock_after m (length batch) moment in
    let first = first_timestamp clock (length batch) in
    let begun = at_clock m clock in
    let chains = chains_of rules.linked batch in
    told_if (nat_lt max_clock clock) m (after_chains rules begun chains first) clock (with_timestamps first (chains_results rules begun chains first)) (chains_lead rules IsClockKept 0 (clock_leads rules keep) begun chains first (omega arith))

-- none of the records that are behind a clock lies in a span that ends by it
beyond : (span : Span) (time : ℕ) → span.last < time → is_within span time ≡ false
beyond span time h = grind arith

none_within : {A : Type 0} (time : A → ℕ) (span : Span) (clock : ℕ) (xs : List A) → span.last ≤ clock → All (λ it. clock < time it) xs → filter (λ it. is_within span (time it)) xs ≡ []
none_within time span clock [] le all = refl
none_within time span clock (x ∷ xs) le all = rw (beyond span (time x) (omega (arith, All-head (λ it. clock < time it) x xs all))) (none_within time span clock xs le (All-tail (λ it. clock < time it) x xs all))

same_within : {A : Type 0} (time : A → ℕ) (span : Span) (clock : ℕ) (old new : List A) → span.last ≤ clock → GoesOnBehind time clock old new → within time span new ≡ within time span old
same_within time span clock old new le on = rw (on.is, filter-append (λ it. is_within span (time it)) old on.more, none_within time span clock on.more le on.behind, append-nil (filter (λ it. is_within span (time it)) old)) refl

pub spans_stay : SpansStay
spans_stay old new on span le = record {
  accounts = same_within account_time span old.clock old.accounts new.accounts le on.accounts;
  transfers = same_within transfer_time span old.clock old.transfers new.transfers le on.transfers;
}

pub pages_stay : PagesStay
pages_stay old new on asked le = ap (page_over transfer_time (asked_transfer asked.tags) asked.page) (same_within transfer_time (page_span asked.page) old.clock old.transfers new.transfers le on.transfers)
