-- A valid machine is valid entry by entry.
use Rattle.std.proofs.Common.{◌≡◌, ◌≢◌, ◌<◌, ◌≤◌, ◌+◌, ℕ, false, List, [], ◌∷◌, ◌++◌, None, refl, sym, ap, ◌∙◌, subst, arith}
use Rattle.std.specs.List.{All, AllPairs}
use Rattle.std.proofs.lemmas.List.Kept.{AllPairs-cons}
use Rattle.std.proofs.lemmas.List.Elements.{All-nil, All-push, All-weaker}
use Rattle.std.proofs.lemmas.List.Quantifiers.{all_pairs_push}
use Rattle.records.specs.declared.account.Account.{Account}
use Rattle.records.specs.declared.transfer.Transfer.{Transfer}
use Rattle.records.specs.declared.transfer.TransferEvent.{TransferEvent}
use Rattle.records.specs.declared.facts.TransferFacts.{TransferFacts}
use Rattle.records.specs.Machine.{Machine, new_machine, has_id, with_id, with_failed}
use Rattle.records.specs.Facts.{facts_of}
use Rattle.records.specs.StoredRecord.{stored_transfer}
use Rattle.records.specs.Step.{account_verdict_in, transfer_verdict_in, at_clock, max_clock}
use Rattle.records.specs.Widths.{IsAccountInWidth, IsTransferInWidth}
use Rattle.records.specs.Valid.{IsValid, IsNextTimestamp, IsNextAccount, IsNextTransfer, IsNextFailed, event_of_account, event_of_transfer, with_account, with_transfer}
use Rattle.records.specs.EntryByEntry.{entries_before, AreFailedApart, IsAccountGiven, transfer_given, IsTransferGiven, IsValidEntryByEntry}
use Rattle.records.specs.TransferVerdict.{transfer_verdict}
use Rattle.engine.specs.Promises.{IsAscending, IsFailedId}
use Rattle.engine.proofs.IsSound.{IsSound}
use Rattle.engine.proofs.NextTransferLemmas.{next_entry_of}
use Rattle.engine.proofs.Sound.{sound}
use Rattle.engine.proofs.EarlierLemmas.{below, below_all, below_push, All-both}

-- the entries before one of the list are the same with a later entry

before_with_account : (m : Machine) (a : Account) (timestamp clock : ℕ) → timestamp ≤ a.timestamp → entries_before (with_account m a) timestamp clock ≡ entries_before m timestamp clock
before_with_account m a timestamp clock h = λ i. record {
  accounts = below_push (λ (x : Account). x.timestamp) timestamp m.accounts a h i;
  transfers = below (λ (x : Transfer). x.timestamp) timestamp m.transfers;
  clock = clock;
  failed = [];
}

before_with_transfer : (m : Machine) (t : Transfer) (timestamp clock : ℕ) → timestamp ≤ t.timestamp → entries_before (with_transfer m t) timestamp clock ≡ entries_before m timestamp clock
before_with_transfer m t timestamp clock h = λ i. record {
  accounts = below (λ (x : Account). x.timestamp) timestamp m.accounts;
  transfers = below_push (λ (x : Transfer). x.timestamp) timestamp m.transfers t h i;
  clock = clock;
  failed = [];
}

-- the machine at a clock, with no id that failed
abbrev pub unfailed : Machine → ℕ → Machine
unfailed m clock = record m { clock = clock; failed = [] }

-- before a timestamp that is later than all stands the whole machine
pub before_all : (m : Machine) (timestamp clock : ℕ) → All (λ a. a.timestamp < timestamp) m.accounts → All (λ t. t.timestamp < timestamp) m.transfers → entries_before m timestamp clock ≡ unfailed m clock
before_all m timestamp clock a t = λ i. record {
  accounts = below_all (λ (x : Account). x.timestamp) timestamp m.accounts a i;
  transfers = below_all (λ (x : Transfer). x.timestamp) timestamp m.transfers t i;
  clock = clock;
  failed = [];
}

-- an account beside the entries of another machine that are the same before it
account_given_at : (m n : Machine) (a : Account) → entries_before n a.timestamp a.timestamp ≡ entries_before m a.timestamp a.timestamp → IsAccountGiven m a → IsAccountGiven n a
account_given_at m n a same h = record { accepted = subst (λ (x : Machine). account_verdict_in x (event_of_account a) ≡ None) (sym same) h.accepted }

transfer_given_at : (m n : Machine) (t : Transfer) → entries_before n t.timestamp t.at ≡ entries_before m t.timestamp t.at → IsTransferGiven m t → IsTransferGiven n t
transfer_given_at m n t same h = record {
  accepted = subst (λ (x : Machine). transfer_verdict_in x (event_of_transfer t) ≡ None) (sym same) h.accepted;
  stored = subst (λ (x : Machine). transfer_given x t ≡ t) (sym same) h.stored;
}

-- accounts depend on no clock
pub any_clock : (m : Machine) (a : Account) (clock : ℕ) → account_verdict_in m (event_of_account a) ≡ None → account_verdict_in (unfailed m clock) (event_of_account a) ≡ None
unfolding account_verdict_in
any_clock m a clock h = h

new_account_given : (m : Machine) (a : Account) → IsNextAccount m a → IsAccountGiven (with_account m a) a
new_account_given m a next =
    let same = before_with_account m a a.timestamp a.timestamp (omega arith) ∙ before_all m a.timestamp a.timestamp next.timestamp.after_accounts next.timestamp.after_transfers in
    record { accepted = subst (λ (x : Machine). account_verdict_in x (event_of_account a) ≡ None) (sym same) (any_clock m a a.timestamp next.accepted) }

-- failed ids decide nothing of an event whose id is none of them
facts_unfailed : (m : Machine) (ev : TransferEvent) → has_id ev.id m.failed ≡ false → facts_of (unfailed m m.clock) ev ≡ facts_of m ev
unfolding facts_of
facts_unfailed m ev h = λ i. record (facts_of m ev) { failed = sym h i }

verdict_by_facts : (m n : Machine) (ev : TransferEvent) → facts_of m ev ≡ facts_of n ev → transfer_verdict_in n ev ≡ None → transfer_verdict_in m ev ≡ None
unfolding transfer_verdict_in
verdict_by_facts m n ev same h = subst (λ (f : TransferFacts). transfer_verdict f ev ≡ None) (sym same) h

new_transfer_given : (m : Machine) (t : Transfer) → IsNextTransfer m t → IsTransferGiven (with_transfer m t) t
new_transfer_given m t next =
    let ev = event_of_transfer t in
    let facts = facts_unfailed m ev (next_entry_of m t next).not_failed in
    let at : unfailed m t.at ≡ unfailed m m.clock = ap (unfailed m) next.at in
    let same = before_with_transfer m t t.timestamp t.at (omega arith) ∙ before_all m t.timestamp t.at next.timestamp.after_accounts next.timestamp.after_transfers ∙ at in
    record {
      accepted = subst (λ (x : Machine). transfer_verdict_in x ev ≡ None) (sym same) (verdict_by_facts (unfailed m m.clock) m ev facts next.accepted);
      stored = subst (λ (x : Machine). transfer_given x t ≡ t) (sym same) (subst (λ (f : TransferFacts). stored_transfer f ev t.timestamp t.at ≡ t) (sym facts) next.stored);
    }

-- failed ids, as a sound machine has them

pairs_ascend : (ids : List ℕ) → IsAscending ids → AllPairs (λ id later. id < later) ids
pairs_ascend [] asc = λ i j d less within. absurd (omega arith)
pairs_ascend (id ∷ ids) asc = AllPairs-cons (λ x y. x < y) id ids asc.0 (pairs_ascend ids asc.1)

failed_apart : (m : Machine) → IsSound m → AreFailedApart m
failed_apart m s = record {
  ascend = pairs_ascend m.failed s.ascending;
  apart = All-weaker (IsFailedId m.transfers) (IsNextFailed m) (λ id h. record { positive = h.positive; below_max = h.below_max; unknown = h.unknown }) m.failed s.failed;
}

-- a new tenant

none_given : IsValidEntryByEntry new_machine
none_given = record {
  widths = record { accounts = All-nil IsAccountInWidth; transfers = All-nil IsTransferInWidth };
  timestamps = record {
    positive_accounts = All-nil (λ a. 0 < a.timestamp);
    positive_transfers = All-nil (λ t. 0 < t.timestamp);
    accounts_rise = λ i j d less within. absurd (omega arith);
    transfers_rise = λ i j d less within. absurd (omega arith);
    apart = All-nil (λ a. All (λ t. a.timestamp ≢ t.timestamp) []);
  };
  batches = record { from = All-nil (λ t. t.timestamp ≤ t.at); short = All-nil (λ t. t.at < t.timestamp + 1000); never_fall = λ i j d less within. absurd (omega arith) };
  clock = record { accounts = All-nil (λ a. a.timestamp ≤ 0); transfers = All-nil (λ t. t.timestamp ≤ 0); batches = All-nil (λ t. t.at ≤ 0); bounded = omega arith };
  failed = failed_apart new_machine (sound new_machine IsValid.new_tenant);
  accounts = All-nil (IsAccountGiven new_machine);
  transfers = All-nil (IsTransferGiven new_machine);
}

-- a later clock, and other failed ids

pub beside_others : (m : Machine) (clock : ℕ) (ids : List ℕ) → IsValidEntryByEntry m → m.clock ≤ clock → clock ≤ max_clock → AreFailedApart (record m { clock = clock; failed = ids }) → IsValidEntryByEntry (record m { clock = clock; failed = ids })
beside_others m clock ids v le fits failed =
    let n : Machine = record m { clock = clock; failed = ids } in
    record {
      widths = record { accounts = v.widths.accounts; transfers = v.widths.transfers };
      timestamps = record {
        positive_accounts = v.timestamps.positive_accounts;
        positive_transfers = v.timestamps.positive_transfers;
        accounts_rise = v.timestamps.accounts_rise;
        transfers_rise = v.timestamps.transfers_rise;
        apart = v.timestamps.apart;
      };
      batches = record { from = v.batches.from; short = v.batches.short; never_fall = v.batches.never_fall };
      clock = record {
        accounts = All-weaker (λ a. a.timestamp ≤ m.clock) (λ a. a.timestamp ≤ clock) (λ a h. omega arith) m.accounts v.clock.accounts;
        transfers = All-weaker (λ t. t.timestamp ≤ m.clock) (λ t. t.timestamp ≤ clock) (λ t h. omega arith) m.transfers v.clock.transfers;
        batches = All-weaker (λ t. t.at ≤ m.clock) (λ t. t.at ≤ clock) (λ t h. omega arith) m.transfers v.clock.batches;
        bounded = fits;
      };
      failed = failed;
      accounts = All-weaker (IsAccountGiven m) (IsAccountGiven n) (λ a h. account_given_at m n a refl h) m.accounts v.accounts;
      transfers = All-weaker (IsTransferGiven m) (IsTransferGiven n) (λ t h. transfer_given_at m n t refl h) m.transfers v.transfers;
    }

-- the entries of a machine, with a later account

accounts_with_account : (m : Machine) (a : Account) → IsNextTimestamp m a.timestamp → All (IsAccountGiven m) m.accounts → All (IsAccountGiven (with_account m a)) m.accounts
accounts_with_account m a next v = All-weaker (λ x. IsAccountGiven m x × (x.timestamp < a.timestamp)) (IsAccountGiven (with_account m a)) (λ x h. account_given_at m (with_account m a) x (before_with_account m a x.timestamp x.timestamp (omega arith)) h.0) m.accounts (All-both (IsAccountGiven m) (λ x. x.timestamp < a.timestamp) m.accounts v next.after_accounts)

transfers_with_account : (m : Machine) (a : Account) → IsNextTimestamp m a.timestamp → All (IsTransferGiven m) m.transfers → All (IsTransferGiven (with_account m a)) m.transfers
transfers_with_account m a next v = All-weaker (λ x. IsTransferGiven m x × (x.timestamp < a.timestamp)) (IsTransferGiven (with_account m a)) (λ x h. transfer_given_at m (with_account m a) x (before_with_account m a x.timestamp x.at (omega arith)) h.0) m.transfers (All-both (IsTransferGiven m) (λ x. x.timestamp < a.timestamp) m.transfers v next.after_transfers)

account_given : (m : Machine) (a : Account) → IsValidEntryByEntry m → IsNextAccount m a → AreFailedApart (with_account m a) → IsValidEntryByEntry (with_account m a)
account_given m a v next failed = record {
  failed = failed;
  widths = record { accounts = All-push IsAccountInWidth m.accounts a v.widths.accounts next.widths; transfers = v.widths.transfers };
  timestamps = record {
    positive_accounts = All-push (λ x. 0 < x.timestamp) m.accounts a v.timestamps.positive_accounts next.timestamp.positive;
    positive_transfers = v.timestamps.positive_transfers;
    accounts_rise = all_pairs_push (λ x y. x.timestamp < y.timestamp) m.accounts a v.timestamps.accounts_rise next.timestamp.after_accounts;
    transfers_rise = v.timestamps.transfers_rise;
    apart = All-push (λ x. All (λ t. x.timestamp ≢ t.timestamp) m.transfers) m.accounts a v.timestamps.apart (All-weaker (λ t. t.timestamp < a.timestamp) (λ t. a.timestamp ≢ t.timestamp) (λ t h same. omega arith) m.transfers next.timestamp.after_transfers);
  };
  batches = record { from = v.batches.from; short = v.batches.short; never_fall = v.batches.never_fall };
  clock = record { accounts = All-push (λ x. x.timestamp ≤ m.clock) m.accounts a v.clock.accounts next.timestamp.by_clock; transfers = v.clock.transfers; batches = v.clock.batches; bounded = v.clock.bounded };
  accounts = All-push (IsAccountGiven (with_account m a)) m.accounts a (accounts_with_account m a next.timestamp v.accounts) (new_account_given m a next);
  transfers = transfers_with_account m a next.timestamp v.transfers;
}

-- with a later transfer

accounts_with_transfer : (m : Machine) (t : Transfer) → IsNextTimestamp m t.timestamp → All (IsAccountGiven m) m.accounts → All (IsAccountGiven (with_transfer m t)) m.accounts
accounts_with_transfer m t next v = All-weaker (λ x. IsAccountGiven m x × (x.timestamp < t.timestamp)) (IsAccountGiven (with_transfer m t)) (λ x h. account_given_at m (with_transfer m t) x (before_with_transfer m t x.timestamp x.timestamp (omega arith)) h.0) m.accounts (All-both (IsAccountGiven m) (λ x. x.timestamp < t.timestamp) m.accounts v next.after_accounts)

transfers_with_transfer : (m : Machine) (t : Transfer) → IsNextTimestamp m t.timestamp → All (IsTransferGiven m) m.transfers → All (IsTransferGiven (with_transfer m t)) m.transfers
transfers_with_transfer m t next v = All-weaker (λ x. IsTransferGiven m x × (x.timestamp < t.timestamp)) (IsTransferGiven (with_transfer m t)) (λ x h. transfer_given_at m (with_transfer m t) x (before_with_transfer m t x.timestamp x.at (omega arith)) h.0) m.transfers (All-both (IsTransferGiven m) (λ x. x.timestamp < t.timestamp) m.transfers v next.after_transfers)

next_transfer_given : (m : Machine) (t : Transfer) → IsValidEntryByEntry m → IsNextTransfer m t → AreFailedApart (with_transfer m t) → IsValidEntryByEntry (with_transfer m t)
next_transfer_given m t v next failed =
    let time = next.timestamp in
    record {
      failed = failed;
      widths = record { accounts = v.widths.accounts; transfers = All-push IsTransferInWidth m.transfers t v.widths.transfers next.widths };
      timestamps = record {
        positive_accounts = v.timestamps.positive_accounts;
        positive_transfers = All-push (λ x. 0 < x.timestamp) m.transfers t v.timestamps.positive_transfers time.positive;
        accounts_rise = v.timestamps.accounts_rise;
        transfers_rise = all_pairs_push (λ x y. x.timestamp < y.timestamp) m.transfers t v.timestamps.transfers_rise time.after_transfers;
        apart = All-weaker (λ a. All (λ x. a.timestamp ≢ x.timestamp) m.transfers × (a.timestamp < t.timestamp)) (λ a. All (λ x. a.timestamp ≢ x.timestamp) (m.transfers ++ t ∷ [])) (λ a h. All-push (λ x. a.timestamp ≢ x.timestamp) m.transfers t h.0 (λ same. omega arith)) m.accounts (All-both (λ a. All (λ x. a.timestamp ≢ x.timestamp) m.transfers) (λ a. a.timestamp < t.timestamp) m.accounts v.timestamps.apart time.after_accounts);
      };
      batches = record {
        from = All-push (λ x. x.timestamp ≤ x.at) m.transfers t v.batches.from (omega (arith, time.by_clock, next.at));
        short = All-push (λ x. x.at < x.timestamp + 1000) m.transfers t v.batches.short (omega (arith, time.in_batch, next.at));
        never_fall = all_pairs_push (λ x y. x.at ≤ y.at) m.transfers t v.batches.never_fall (All-weaker (λ x. x.at ≤ m.clock) (λ x. x.at ≤ t.at) (λ x h. omega (arith, next.at)) m.transfers v.clock.batches);
      };
      clock = record {
        accounts = v.clock.accounts;
        transfers = All-push (λ x. x.timestamp ≤ m.clock) m.transfers t v.clock.transfers time.by_clock;
        batches = All-push (λ x. x.at ≤ m.clock) m.transfers t v.clock.batches (omega (arith, next.at));
        bounded = v.clock.bounded;
      };
      accounts = accounts_with_transfer m t time v.accounts;
      transfers = All-push (IsTransferGiven (with_transfer m t)) m.transfers t (transfers_with_transfer m t time v.transfers) (new_transfer_given m t next);
    }

-- each entry of a valid machine is given by its own fields, by the steps that led to it
pub given : (m : Machine) → IsValid m → IsValidEntryByEntry m
given m IsValid.new_tenant = none_given
given n (IsValid.later m clock valid le fits) = beside_others m clock m.failed (given m valid) le fits (failed_apart (at_clock m clock) (sound (at_clock m clock) (IsValid.later m clock valid le fits)))
given n (IsValid.next_account m a valid next) = account_given m a (given m valid) next (failed_apart (with_account m a) (sound (with_account m a) (IsValid.next_account m a valid next)))
given n (IsValid.next_transfer m t valid next) = next_transfer_given m t (given m valid) next (failed_apart (with_transfer m t) (sound (with_transfer m t) (IsValid.next_transfer m t valid next)))
given n (IsValid.next_failed m id valid next) = let v = given m valid in beside_others m m.clock (with_id id m.failed) v (omega arith) v.clock.bounded (failed_apart (with_failed m id) (sound (with_failed m id) (IsValid.next_failed m id valid next)))
