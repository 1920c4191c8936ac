-- An entry that is sent again as it is stored meets the same facts, is accepted, and is stored as itself.
use Rattle.std.proofs.Common.{◌≡◌, ◌≤◌, ℕ, Bool, true, false, not, ◌&&◌, eqb, ltb, min, Option, Some, None, cond, refl, sym, ap, ◌∙◌, subst, arith}
use Rattle.std.specs.Option.{option_and_then, option_map}
use Rattle.records.specs.declared.transfer.Transfer.{Transfer}
use Rattle.records.specs.declared.transfer.TransferEvent.{TransferEvent}
use Rattle.records.specs.declared.facts.AccountWithBalances.{AccountWithBalances}
use Rattle.records.specs.declared.facts.PendingTransfer.{PendingTransfer}
use Rattle.records.specs.declared.facts.TransferFacts.{TransferFacts}
use Rattle.records.specs.Flags.{is_post, is_void, is_post_or_void}
use Rattle.records.specs.declared.side.Side.{Side}
use Rattle.records.specs.declared.side.Side.TheVariants.{Debit, Credit}
use Rattle.records.specs.Sides.{is_balancing_on}
use Rattle.records.specs.Machine.{Machine, max_amount, transfer_with, has_id}
use Rattle.records.specs.Facts.{facts_of, account_in, pending_transfer_in, with_pending_amount, account_id_of}
use Rattle.records.specs.ActualAmount.{actual_amount, amount_balanced, room_on}
use Rattle.records.specs.StoredRecord.{stored_transfer, field_from, given_or, source_of}
use Rattle.records.specs.TransferVerdict.{transfer_verdict, is_given_otherwise}
use Rattle.records.specs.Valid.{event_of_transfer}
use Rattle.engine.proofs.AcceptedEventLemmas.{AcceptedNew, AcceptedPostOrVoid, AcceptedSingleOrPending, post_or_void_is_accepted, single_or_pending_is_accepted}
use Rattle.engine.proofs.PostOrVoidLemmas.{ended, asked, ended_twice, ended_again, void_whole, given_twice, given_again}

-- the event that asks for the very record that this event leaves
abbrev pub again : TransferFacts → TransferEvent → ℕ → ℕ → TransferEvent
again f ev timestamp clock = event_of_transfer (stored_transfer f ev timestamp clock)

-- the same account on a side, and so the same facts

id_again : (ends : Bool) (field : Transfer → ℕ) (pending : Option PendingTransfer) (found : Option ℕ) (given : ℕ) → cond ends found (Some (field_from field (cond ends pending None) given)) ≡ cond ends found (Some given)
id_again true field pending found given = refl
id_again false field pending found given = refl

account_again : (side : Side) (f : TransferFacts) (ev : TransferEvent) (timestamp clock : ℕ) (found : Option PendingTransfer) → account_id_of side (again f ev timestamp clock) found ≡ account_id_of side ev found
account_again Debit f ev timestamp clock found = id_again (is_post_or_void ev.flags) (λ t. t.debit_account_id) f.pending _ ev.debit_account_id
account_again Credit f ev timestamp clock found = id_again (is_post_or_void ev.flags) (λ t. t.credit_account_id) f.pending _ ev.credit_account_id

pub same_facts : (m : Machine) (f : TransferFacts) (ev : TransferEvent) (timestamp clock : ℕ) → facts_of m (again f ev timestamp clock) ≡ facts_of m ev
unfolding facts_of
same_facts m f ev timestamp clock =
    let found = pending_transfer_in m ev in
    λ i. record {
      existing = option_map (with_pending_amount m) (transfer_with ev.id m.transfers);
      failed = has_id ev.id m.failed;
      pending = found;
      debit = option_and_then (account_in m) (account_again Debit f ev timestamp clock found i);
      credit = option_and_then (account_in m) (account_again Credit f ev timestamp clock found i);
    }

-- the same record, where the amount is the same

field_twice : (field : Transfer → ℕ) (pending : Option PendingTransfer) (given : ℕ) → field_from field pending (field_from field pending given) ≡ field_from field pending given
field_twice field None given = refl
field_twice field (Some p) given = given_twice (field p.transfer) given

pub same_record : (f : TransferFacts) (ev : TransferEvent) (timestamp clock : ℕ) → actual_amount f (again f ev timestamp clock) ≡ actual_amount f ev → stored_transfer f (again f ev timestamp clock) timestamp clock ≡ stored_transfer f ev timestamp clock
same_record f ev timestamp clock amount =
    let twice = λ (field : Transfer → ℕ) (given : ℕ). field_twice field (source_of f ev) given in
    λ i. record {
      id = ev.id;
      debit_account_id = twice (λ t. t.debit_account_id) ev.debit_account_id i;
      credit_account_id = twice (λ t. t.credit_account_id) ev.credit_account_id i;
      amount = amount i;
      pending_id = ev.pending_id;
      user_data_128 = twice (λ t. t.user_data_128) ev.user_data_128 i;
      user_data_64 = twice (λ t. t.user_data_64) ev.user_data_64 i;
      user_data_32 = twice (λ t. t.user_data_32) ev.user_data_32 i;
      timeout = ev.timeout;
      ledger = twice (λ t. t.ledger) ev.ledger i;
      code = twice (λ t. t.code) ev.code i;
      flags = ev.flags;
      timestamp = timestamp;
      at = clock;
    }

fresh_again : (f : TransferFacts) (ev : TransferEvent) (timestamp clock : ℕ) → AcceptedNew f ev → AcceptedNew f (again f ev timestamp clock)
fresh_again f ev timestamp clock fresh = record { event = (refl, fresh.event.1); unknown = fresh.unknown; first = fresh.first }

-- the amount that it moves, and a field that it takes
pub post_or_void_amount : (f : TransferFacts) (ev : TransferEvent) (p : PendingTransfer) → is_post_or_void ev.flags ≡ true → f.pending ≡ Some p → actual_amount f ev ≡ ended max_amount (is_void ev.flags) (is_post ev.flags) p.transfer.amount ev.amount
post_or_void_amount f ev p ends named = rw (ends, named) refl

pub post_or_void_field : (f : TransferFacts) (ev : TransferEvent) (p : PendingTransfer) (field : Transfer → ℕ) (given : ℕ) → is_post_or_void ev.flags ≡ true → f.pending ≡ Some p → field_from field (source_of f ev) given ≡ given_or (field p.transfer) given
post_or_void_field f ev p field given ends named = rw (ends, named) refl

post_or_void_amount_again : (f : TransferFacts) (ev : TransferEvent) (timestamp clock : ℕ) (a : AcceptedPostOrVoid f ev) → is_post_or_void ev.flags ≡ true → a.pending.transfer.amount ≤ max_amount → actual_amount f (again f ev timestamp clock) ≡ actual_amount f ev
post_or_void_amount_again f ev timestamp clock a ends fits =
    let moves = ended max_amount (is_void ev.flags) (is_post ev.flags) a.pending.transfer.amount in
    let now : actual_amount f ev ≡ moves ev.amount = post_or_void_amount f ev a.pending ends a.is_pending in
    let next : actual_amount f (again f ev timestamp clock) ≡ moves (actual_amount f ev) = post_or_void_amount f (again f ev timestamp clock) a.pending ends a.is_pending in
    next ∙ (ap moves now ∙ (ended_twice max_amount (is_void ev.flags) (is_post ev.flags) a.pending.transfer.amount ev.amount fits a.rows.1.1.1.1.1.0 ∙ sym now))

-- a field that a post or void takes from its pending transfer
left_or_given : (f : TransferFacts) (ev : TransferEvent) (p : PendingTransfer) (field : Transfer → ℕ) (given : ℕ) → is_post_or_void ev.flags ≡ true → f.pending ≡ Some p → is_given_otherwise given (field p.transfer) ≡ false → is_given_otherwise (field_from field (source_of f ev) given) (field p.transfer) ≡ false
left_or_given f ev p field given ends named h = subst (λ x. is_given_otherwise x (field p.transfer) ≡ false) (sym (post_or_void_field f ev p field given ends named)) (given_again (field p.transfer) given h)

post_or_void_again : (f : TransferFacts) (ev : TransferEvent) (timestamp clock : ℕ) (a : AcceptedPostOrVoid f ev) → is_post_or_void ev.flags ≡ true → a.pending.transfer.amount ≤ max_amount → AcceptedPostOrVoid f (again f ev timestamp clock)
post_or_void_again f ev timestamp clock a ends fits =
    let p = a.pending in
    let pending = p.transfer.amount in
    let void = is_void ev.flags in
    let post = is_post ev.flags in
    let r = a.rows in
    let amount = sym (post_or_void_amount f ev p ends a.is_pending) in
    let taken = λ (field : Transfer → ℕ) (given : ℕ) (h : is_given_otherwise given (field p.transfer) ≡ false). left_or_given f ev p field given ends a.is_pending h in
    let exceeds = subst (λ x. ltb pending (asked max_amount post pending x) ≡ false) amount (ended_again max_amount void post pending ev.amount fits r.1.1.1.1.1.0) in
    let whole = subst (λ x. (void && not (eqb x 0) && ltb x pending) ≡ false) amount (void_whole max_amount void post pending ev.amount) in
    record {
      pending = p;
      is_pending = a.is_pending;
      own = a.own;
      rows = (r.0, (taken (λ t. t.debit_account_id) ev.debit_account_id r.1.0, (taken (λ t. t.credit_account_id) ev.credit_account_id r.1.1.0, (taken (λ t. t.ledger) ev.ledger r.1.1.1.0, (taken (λ t. t.code) ev.code r.1.1.1.1.0, (exceeds, (whole, r.1.1.1.1.1.1.1)))))));
    }

-- an amount that is lowered already is not lowered again
abbrev least_if : Bool → ℕ → ℕ → ℕ
least_if asked room amount = cond asked (min amount room) amount

lowered_twice : (at_credit at_debit : Bool) (of_credit of_debit amount : ℕ) → least_if at_credit of_credit (least_if at_debit of_debit (least_if at_credit of_credit (least_if at_debit of_debit amount))) ≡ least_if at_credit of_credit (least_if at_debit of_debit amount)
lowered_twice at_credit at_debit of_credit of_debit amount = grind arith

-- the event with another amount, and with the timestamp 0 that a request has
abbrev with_amount : TransferEvent → ℕ → TransferEvent
with_amount ev amount = record ev { amount = amount; timestamp = 0 }

-- a field that is given is kept
new_field : (ends : Bool) (field : Transfer → ℕ) (pending : Option PendingTransfer) (given : ℕ) → ends ≡ false → field_from field (cond ends pending None) given ≡ given
new_field ends field pending given new = rw new refl

new_event : (f : TransferFacts) (ev : TransferEvent) (timestamp clock : ℕ) → is_post_or_void ev.flags ≡ false → again f ev timestamp clock ≡ with_amount ev (actual_amount f ev)
new_event f ev timestamp clock new =
    let same = λ (field : Transfer → ℕ) (given : ℕ). new_field (is_post_or_void ev.flags) field f.pending given new in
    λ i. record {
      id = ev.id;
      debit_account_id = same (λ t. t.debit_account_id) ev.debit_account_id i;
      credit_account_id = same (λ t. t.credit_account_id) ev.credit_account_id i;
      amount = actual_amount f ev;
      pending_id = ev.pending_id;
      user_data_128 = same (λ t. t.user_data_128) ev.user_data_128 i;
      user_data_64 = same (λ t. t.user_data_64) ev.user_data_64 i;
      user_data_32 = same (λ t. t.user_data_32) ev.user_data_32 i;
      timeout = ev.timeout;
      ledger = same (λ t. t.ledger) ev.ledger i;
      code = same (λ t. t.code) ev.code i;
      flags = ev.flags;
      timestamp = 0;
    }

-- the amount that it moves
pub single_or_pending_amount : (f : TransferFacts) (ev : TransferEvent) (debit credit : AccountWithBalances) → is_post_or_void ev.flags ≡ false → f.debit ≡ Some debit → f.credit ≡ Some credit → actual_amount f ev ≡ amount_balanced debit credit ev
single_or_pending_amount f ev debit credit new d c = rw (new, d, c) refl

balanced_twice : (debit credit : AccountWithBalances) (ev : TransferEvent) → amount_balanced debit credit (with_amount ev (amount_balanced debit credit ev)) ≡ amount_balanced debit credit ev
balanced_twice debit credit ev = lowered_twice (is_balancing_on Credit ev.flags) (is_balancing_on Debit ev.flags) (room_on Credit credit.balances) (room_on Debit debit.balances) ev.amount

single_or_pending_again : (f : TransferFacts) (ev : TransferEvent) (timestamp clock : ℕ) → AcceptedSingleOrPending f ev → is_post_or_void ev.flags ≡ false → AcceptedSingleOrPending f (again f ev timestamp clock)
single_or_pending_again f ev timestamp clock a new =
    subst (AcceptedSingleOrPending f) (sym (new_event f ev timestamp clock new))
    (rw (single_or_pending_amount f ev a.debit a.credit new a.is_debit a.is_credit)
    (record {
      debit = a.debit;
      credit = a.credit;
      is_debit = a.is_debit;
      is_credit = a.is_credit;
      own = a.own;
      ledgers = a.ledgers;
      room = rw (balanced_twice a.debit a.credit ev) a.room;
      limits = rw (balanced_twice a.debit a.credit ev) a.limits;
    }))

single_or_pending_amount_again : (f : TransferFacts) (ev : TransferEvent) (timestamp clock : ℕ) (a : AcceptedSingleOrPending f ev) → is_post_or_void ev.flags ≡ false → actual_amount f (again f ev timestamp clock) ≡ actual_amount f ev
single_or_pending_amount_again f ev timestamp clock a new =
    let now : actual_amount f ev ≡ amount_balanced a.debit a.credit ev = single_or_pending_amount f ev a.debit a.credit new a.is_debit a.is_credit in
    let next : actual_amount f (again f ev timestamp clock) ≡ amount_balanced a.debit a.credit (with_amount ev (actual_amount f ev)) = single_or_pending_amount f (again f ev timestamp clock) a.debit a.credit new a.is_debit a.is_credit in
    next ∙ (ap (λ x. amount_balanced a.debit a.credit (with_amount ev x)) now ∙ (balanced_twice a.debit a.credit ev ∙ sym now))

-- what the same event, sent as it is stored, is answered, and how it is stored
pub record SentAgain (f : TransferFacts) (ev : TransferEvent) (timestamp clock : ℕ) : Type 0 where
  pub accepted : transfer_verdict f (again f ev timestamp clock) ≡ None
  pub stored : stored_transfer f (again f ev timestamp clock) timestamp clock ≡ stored_transfer f ev timestamp clock

pub post_or_void_sent_again : (f : TransferFacts) (ev : TransferEvent) (timestamp clock : ℕ) → AcceptedNew f ev → is_post_or_void ev.flags ≡ true → (a : AcceptedPostOrVoid f ev) → a.pending.transfer.amount ≤ max_amount → SentAgain f ev timestamp clock
post_or_void_sent_again f ev timestamp clock fresh ends a fits = record {
  accepted = post_or_void_is_accepted f (again f ev timestamp clock) (fresh_again f ev timestamp clock fresh) ends (post_or_void_again f ev timestamp clock a ends fits);
  stored = same_record f ev timestamp clock (post_or_void_amount_again f ev timestamp clock a ends fits);
}

pub single_or_pending_sent_again : (f : TransferFacts) (ev : TransferEvent) (timestamp clock : ℕ) → AcceptedNew f ev → is_post_or_void ev.flags ≡ false → AcceptedSingleOrPending f ev → SentAgain f ev timestamp clock
single_or_pending_sent_again f ev timestamp clock fresh new a = record {
  accepted = single_or_pending_is_accepted f (again f ev timestamp clock) (fresh_again f ev timestamp clock fresh) new (single_or_pending_again f ev timestamp clock a new);
  stored = same_record f ev timestamp clock (single_or_pending_amount_again f ev timestamp clock a new);
}
