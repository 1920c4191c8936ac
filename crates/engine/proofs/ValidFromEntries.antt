-- A machine that is valid entry by entry is valid.
use Rattle.std.proofs.Common.{◌≡◌, ◌≢◌, ◌<◌, ◌≤◌, ◌+◌, ℕ, suc, zero, max, Some, None, [], ◌∷◌, ◌++◌, append-nil, append_assoc, add-one, Option, refl, sym, ap, ◌∙◌, subst, arith, eqb, List, false}
use Rattle.std.specs.List.{All, AllPairs}
use Rattle.std.proofs.lemmas.List.Elements.{All-weaker, All-head, All-tail}
use Rattle.std.proofs.lemmas.Bool.Decides.{nat_tests}
use Rattle.records.specs.declared.account.Account.{Account}
use Rattle.records.specs.declared.transfer.Transfer.{Transfer}
use Rattle.records.specs.Machine.{Machine, with_id}
use Rattle.records.specs.Step.{account_verdict_in, transfer_verdict_in}
use Rattle.records.specs.Valid.{IsValid, IsNextTimestamp, IsNextAccount, IsNextTransfer, IsNextFailed, event_of_account, event_of_transfer, with_account, with_transfer}
use Rattle.records.specs.EntryByEntry.{entries_before, IsAccountGiven, transfer_given, IsTransferGiven, IsValidEntryByEntry}
use Rattle.records.specs.Widths.{IsAccountInWidth, IsTransferInWidth}
use Rattle.engine.proofs.EntriesInTurn.{account_time, transfer_time, before_next}
use Rattle.engine.proofs.EntriesOfValid.{before_all, any_clock, unfailed}
use Rattle.engine.proofs.FindByIdLemmas.{with_key, found_all, found_key}
use Rattle.engine.proofs.EarlierLemmas.{below, below_none, below_is_below, never_less, All-both, not_below, pairs_before}

-- the entries before a timestamp are valid, at a clock that the later ones reach
record Reached (m : Machine) (timestamp : ℕ) : Type 0 where
  clock : ℕ
  valid : IsValid (entries_before m timestamp clock)
  recent : clock < timestamp + 1000
  past : clock ≤ m.clock
  not_after : All (λ t. timestamp ≤ t.timestamp → clock ≤ t.at) m.transfers

reached_none : (m : Machine) → Reached m 0
reached_none m = record {
  clock = 0;
  valid = subst IsValid (λ i. record { accounts = sym (below_none account_time 0 m.accounts (λ k d h. omega arith)) i; transfers = sym (below_none transfer_time 0 m.transfers (λ k d h. omega arith)) i; clock = 0; failed = [] }) IsValid.new_tenant;
  recent = omega arith;
  past = omega arith;
  not_after = λ k d h le. omega arith;
}

-- no entry has the timestamp
step_none : (m : Machine) (timestamp : ℕ) → IsValidEntryByEntry m → Reached m timestamp → with_key account_time timestamp m.accounts ≡ None → with_key transfer_time timestamp m.transfers ≡ None → Reached m (timestamp + 1)
step_none m timestamp v r no_account no_transfer =
    let same = before_next m timestamp r.clock None None v.timestamps no_account no_transfer in
    let same_lists : entries_before m (timestamp + 1) r.clock ≡ entries_before m timestamp r.clock = same ∙ λ i. record { accounts = append-nil (below account_time timestamp m.accounts) i; transfers = append-nil (below transfer_time timestamp m.transfers) i; clock = r.clock; failed = [] } in
    record {
      clock = r.clock;
      valid = subst IsValid (sym same_lists) r.valid;
      recent = omega (arith, r.recent);
      past = r.past;
      not_after = All-weaker (λ t. timestamp ≤ t.timestamp → r.clock ≤ t.at) (λ t. timestamp + 1 ≤ t.timestamp → r.clock ≤ t.at) (λ t h le. h (omega arith)) m.transfers r.not_after;
    }

-- the entry of a timestamp is later than those before it
next_time : (m : Machine) (timestamp clock own : ℕ) → own ≡ timestamp → 0 < own → timestamp ≤ clock → clock < timestamp + 1000 → IsNextTimestamp (entries_before m timestamp clock) own
next_time m timestamp clock own same positive by_clock in_batch = record {
  positive = positive;
  after_accounts = All-weaker (λ a. account_time a < timestamp) (λ a. a.timestamp < own) (λ a h. omega arith) (below account_time timestamp m.accounts) (below_is_below account_time timestamp m.accounts);
  after_transfers = All-weaker (λ t. transfer_time t < timestamp) (λ t. t.timestamp < own) (λ t h. omega arith) (below transfer_time timestamp m.transfers) (below_is_below transfer_time timestamp m.transfers);
  in_batch = omega arith;
  by_clock = omega arith;
}

-- an account has it: the clock is at least that timestamp
next_account_at : (m : Machine) (timestamp clock : ℕ) (a : Account) → IsValidEntryByEntry m → with_key account_time timestamp m.accounts ≡ Some a → timestamp ≤ clock → clock < timestamp + 1000 → IsNextAccount (entries_before m timestamp clock) a
next_account_at m timestamp clock a v found by_clock in_batch =
    let same = found_key account_time timestamp m.accounts a found in
    let g = found_all (IsAccountGiven m) account_time timestamp m.accounts a v.accounts found in
    record {
      widths = found_all IsAccountInWidth account_time timestamp m.accounts a v.widths.accounts found;
      timestamp = next_time m timestamp clock a.timestamp same (found_all (λ x. 0 < x.timestamp) account_time timestamp m.accounts a v.timestamps.positive_accounts found) by_clock in_batch;
      accepted = any_clock (entries_before m timestamp a.timestamp) a clock (subst (λ s. account_verdict_in (entries_before m s a.timestamp) (event_of_account a) ≡ None) same g.accepted);
    }

no_transfer_beside : (m : Machine) (timestamp : ℕ) (a : Account) (t : Option Transfer) → IsValidEntryByEntry m → with_key account_time timestamp m.accounts ≡ Some a → with_key transfer_time timestamp m.transfers ≡ t → t ≡ None
no_transfer_beside m timestamp a None v found is = refl
no_transfer_beside m timestamp a (Some t) v found is =
    let own = found_key account_time timestamp m.accounts a found in
    let other = found_key transfer_time timestamp m.transfers t is in
    let apart = found_all (λ x. All (λ y. x.timestamp ≢ y.timestamp) m.transfers) account_time timestamp m.accounts a v.timestamps.apart found in
    absurd (found_all (λ y. a.timestamp ≢ y.timestamp) transfer_time timestamp m.transfers t apart is (own ∙ sym other))

step_account : (m : Machine) (timestamp : ℕ) (a : Account) → IsValidEntryByEntry m → Reached m timestamp → with_key account_time timestamp m.accounts ≡ Some a → Reached m (timestamp + 1)
step_account m timestamp a v r found =
    let clock = max r.clock timestamp in
    let own = found_key account_time timestamp m.accounts a found in
    let by_clock = found_all (λ x. x.timestamp ≤ m.clock) account_time timestamp m.accounts a v.clock.accounts found in
    let past : clock ≤ m.clock = omega (arith, r.past) in
    let begun = IsValid.later (entries_before m timestamp r.clock) clock r.valid (omega arith) (omega (arith, v.clock.bounded)) in
    let next = next_account_at m timestamp clock a v found (omega arith) (omega (arith, r.recent)) in
    let same = before_next m timestamp clock (Some a) None v.timestamps found (no_transfer_beside m timestamp a _ v found refl) in
    let same_lists : entries_before m (timestamp + 1) clock ≡ with_account (entries_before m timestamp clock) a = same ∙ λ i. record { accounts = below account_time timestamp m.accounts ++ a ∷ []; transfers = append-nil (below transfer_time timestamp m.transfers) i; clock = clock; failed = [] } in
    record {
      clock = clock;
      valid = subst IsValid (sym same_lists) (IsValid.next_account (entries_before m timestamp clock) a begun next);
      recent = omega (arith, r.recent);
      past = past;
      not_after = All-weaker (λ t. (timestamp ≤ t.timestamp → r.clock ≤ t.at) × (t.timestamp ≤ t.at)) (λ t. timestamp + 1 ≤ t.timestamp → clock ≤ t.at) (λ t h le. omega (arith, h.0 (omega arith), h.1)) m.transfers (All-both (λ t. timestamp ≤ t.timestamp → r.clock ≤ t.at) (λ t. t.timestamp ≤ t.at) m.transfers r.not_after v.batches.from);
    }

-- a transfer has it: the clock is that of its batch
next_transfer_at : (m : Machine) (timestamp : ℕ) (t : Transfer) → IsValidEntryByEntry m → with_key transfer_time timestamp m.transfers ≡ Some t → IsNextTransfer (entries_before m timestamp t.at) t
next_transfer_at m timestamp t v found =
    let same = found_key transfer_time timestamp m.transfers t found in
    let g = found_all (IsTransferGiven m) transfer_time timestamp m.transfers t v.transfers found in
    let of_all = λ (P : Transfer → Type 0) (all : All P m.transfers). found_all P transfer_time timestamp m.transfers t all found in
    record {
      widths = found_all IsTransferInWidth transfer_time timestamp m.transfers t v.widths.transfers found;
      timestamp = next_time m timestamp t.at t.timestamp same (found_all (λ x. 0 < x.timestamp) transfer_time timestamp m.transfers t v.timestamps.positive_transfers found) (omega (arith, found_all (λ x. x.timestamp ≤ x.at) transfer_time timestamp m.transfers t v.batches.from found)) (omega (arith, found_all (λ x. x.at < x.timestamp + 1000) transfer_time timestamp m.transfers t v.batches.short found));
      at = refl;
      accepted = subst (λ s. transfer_verdict_in (entries_before m s t.at) (event_of_transfer t) ≡ None) same g.accepted;
      stored = subst (λ s. transfer_given (entries_before m s t.at) t ≡ t) same g.stored;
    }

step_transfer : (m : Machine) (timestamp : ℕ) (t : Transfer) → IsValidEntryByEntry m → Reached m timestamp → with_key account_time timestamp m.accounts ≡ None → with_key transfer_time timestamp m.transfers ≡ Some t → Reached m (timestamp + 1)
step_transfer m timestamp t v r no_account found =
    let own = found_key transfer_time timestamp m.transfers t found in
    let reached : r.clock ≤ t.at = found_all (λ x. timestamp ≤ x.timestamp → r.clock ≤ x.at) transfer_time timestamp m.transfers t r.not_after found (omega arith) in
    let past : t.at ≤ m.clock = found_all (λ x. x.at ≤ m.clock) transfer_time timestamp m.transfers t v.clock.batches found in
    let short = found_all (λ x. x.at < x.timestamp + 1000) transfer_time timestamp m.transfers t v.batches.short found in
    let begun = IsValid.later (entries_before m timestamp r.clock) t.at r.valid reached (omega (arith, v.clock.bounded)) in
    let same = before_next m timestamp t.at None (Some t) v.timestamps no_account found in
    let same_lists : entries_before m (timestamp + 1) t.at ≡ with_transfer (entries_before m timestamp t.at) t = same ∙ λ i. record { accounts = append-nil (below account_time timestamp m.accounts) i; transfers = below transfer_time timestamp m.transfers ++ t ∷ []; clock = t.at; failed = [] } in
    record {
      clock = t.at;
      valid = subst IsValid (sym same_lists) (IsValid.next_transfer (entries_before m timestamp t.at) t begun (next_transfer_at m timestamp t v found));
      recent = omega arith;
      past = past;
      not_after = All-weaker (λ u. timestamp < u.timestamp → t.at ≤ u.at) (λ u. timestamp + 1 ≤ u.timestamp → t.at ≤ u.at) (λ u h le. h (omega arith)) m.transfers (never_less transfer_time (λ (u : Transfer). u.at) timestamp m.transfers t v.timestamps.transfers_rise v.batches.never_fall found);
    }

step_by : (m : Machine) (timestamp : ℕ) (a : Option Account) (t : Option Transfer) → IsValidEntryByEntry m → Reached m timestamp → with_key account_time timestamp m.accounts ≡ a → with_key transfer_time timestamp m.transfers ≡ t → Reached m (timestamp + 1)
step_by m timestamp (Some a) t v r is_a is_t = step_account m timestamp a v r is_a
step_by m timestamp None (Some t) v r is_a is_t = step_transfer m timestamp t v r is_a is_t
step_by m timestamp None None v r is_a is_t = step_none m timestamp v r is_a is_t

reach : (m : Machine) (timestamp : ℕ) → IsValidEntryByEntry m → Reached m timestamp
reach m zero v = reached_none m
reach m (suc timestamp) v = subst (Reached m) (add-one timestamp) (step_by m timestamp _ _ v (reach m timestamp v) refl refl)

past : (a b : ℕ) → a < b → a ≤ b
past a b h = omega arith

away_up : (a b : ℕ) → b < a → eqb a b ≡ false
away_up a b h = grind (arith, nat_tests)

-- an id that is greater than all of a list comes last
last_id : (id : ℕ) (ids : List ℕ) → All (λ x. x < id) ids → with_id id ids ≡ ids ++ id ∷ []
last_id id [] h = refl
last_id id (x ∷ ids) h = rw (not_below id x (past x id (All-head (λ y. y < id) x ids h)), away_up id x (All-head (λ y. y < id) x ids h)) (ap (λ ys. x ∷ ys) (last_id id ids (All-tail (λ y. y < id) x ids h)))

-- the failed ids come last, one after the other
with_failed_ids : (m : Machine) (before ids : List ℕ) → IsValid (record m { failed = before }) → AllPairs (λ id later. id < later) (before ++ ids) → All (IsNextFailed m) ids → IsValid (record m { failed = before ++ ids })
with_failed_ids m before [] valid ascend apart = subst (λ xs. IsValid (record m { failed = xs })) (sym (append-nil before)) valid
with_failed_ids m before (id ∷ ids) valid ascend apart =
    let n = record m { failed = before } in
    let h = All-head (IsNextFailed m) id ids apart in
    let next : IsNextFailed n id = record { positive = h.positive; below_max = h.below_max; unknown = h.unknown } in
    let one = subst (λ xs. IsValid (record m { failed = xs })) (last_id id before (pairs_before (λ (x : ℕ) (y : ℕ). x < y) before id ids ascend)) (IsValid.next_failed n id valid next) in
    let all = append_assoc before (id ∷ []) ids in
    subst (λ xs. IsValid (record m { failed = xs })) all (with_failed_ids m (before ++ id ∷ []) ids one (subst (λ xs. AllPairs (λ x y. x < y) xs) (sym all) ascend) (All-tail (IsNextFailed m) id ids apart))

-- all entries are before the time after the clock
pub valid : (m : Machine) → IsValidEntryByEntry m → IsValid m
valid m v =
    let r = reach m (m.clock + 1) v in
    let all = before_all m (m.clock + 1) r.clock (All-weaker (λ a. a.timestamp ≤ m.clock) (λ a. a.timestamp < m.clock + 1) (λ a h. omega arith) m.accounts v.clock.accounts) (All-weaker (λ t. t.timestamp ≤ m.clock) (λ t. t.timestamp < m.clock + 1) (λ t h. omega arith) m.transfers v.clock.transfers) in
    let begun = IsValid.later (unfailed m r.clock) m.clock (subst IsValid all r.valid) r.past v.clock.bounded in
    with_failed_ids m [] m.failed begun v.failed.ascend v.failed.apart
