-- The entries of a valid machine lead to it.
use Rattle.std.proofs.Common.{◌≡◌, ◌≤◌, ◌<◌, ℕ, Bool, true, false, eqb, ltb, cond, List, [], ◌∷◌, ◌++◌, map, refl, sym, ap, ◌∙◌, subst, append_assoc, arith}
use Rattle.std.specs.List.{All}
use Rattle.std.specs.List.Sorted.{IsPermutation, IsSortedByKey}
use Rattle.std.specs.Ordering.{nat_cmp}
use Rattle.std.proofs.lemmas.List.{map-append}
use Rattle.std.proofs.lemmas.List.Elements.{All-nil, All-append, All-map}
use Rattle.std.proofs.lemmas.List.Sorted.{IsPermutation-refl, IsPermutation-sym, IsPermutation-trans, IsPermutation-cons, IsPermutation-middle, IsPermutation-to_front, IsPermutation-append_left, All-permutation}
use Rattle.records.specs.declared.account.Account.{Account}
use Rattle.records.specs.declared.transfer.Transfer.{Transfer}
use Rattle.records.specs.Machine.{Machine, new_machine, with_id}
use Rattle.records.specs.Step.{account_verdict_in, at_clock}
use Rattle.records.specs.Valid.{IsValid, IsNextTimestamp, IsNextAccount, IsNextTransfer, IsNextFailed, with_account, with_transfer}
use Rattle.records.specs.EntryByEntry.{AreFailedApart}
use Rattle.engine.specs.EntryLaws.{ValidExactlyEntryByEntry}
use Rattle.engine.proofs.ValidMachineLemmas.{beside_others, clock_bound}
use Rattle.rows.specs.Tables.{IsAscendingBy}
use Rattle.running.specs.declared.entry.Entry.{Entry}
use Rattle.running.specs.declared.entry.Entry.TheVariants.{Opened, Moved}
use Rattle.running.specs.Entries.{time_of, clock_for, IsNext, AreEntriesOf, machine_of, Replays, FailedIdsStandApart}
use Rattle.running.proofs.EntriesPush.{after_push, next_push, ascending_push}

-- all entries of a machine, its accounts first
abbrev pub entries_in : Machine → List Entry
entries_in m = map Opened m.accounts ++ map Moved m.transfers

-- entries that lead to a machine in which no id has failed
record Built (m : Machine) : Type 0 where
  entries : List Entry
  ascending : IsAscendingBy time_of entries
  all : IsPermutation (entries_in m) entries
  replays : Replays entries m

-- all entries are earlier than a timestamp
earlier : (m : Machine) (b : Built m) (timestamp : ℕ) → IsNextTimestamp m timestamp → All (λ e. time_of e < timestamp) b.entries
earlier m b timestamp next =
    let P = λ (e : Entry). time_of e < timestamp in
    All-permutation P (entries_in m) b.entries b.all (All-append P (map Opened m.accounts) (map Moved m.transfers) (All-map P Opened m.accounts next.after_accounts) (All-map P Moved m.transfers next.after_transfers))

-- the entries of a machine with one more
more_accounts : (accounts : List Account) (transfers : List Transfer) (a : Account) (es : List Entry) → IsPermutation (map Opened accounts ++ map Moved transfers) es → IsPermutation (map Opened (accounts ++ a ∷ []) ++ map Moved transfers) (es ++ Opened a ∷ [])
more_accounts accounts transfers a es all =
    let A = map Opened accounts in
    let B = map Moved transfers in
    let e = Opened a in
    let shape : A ++ e ∷ B ≡ map Opened (accounts ++ a ∷ []) ++ B = sym (ap (λ xs. xs ++ B) (map-append Opened accounts (a ∷ [])) ∙ append_assoc A (e ∷ []) B) in
    let front = IsPermutation-trans (A ++ e ∷ B) (e ∷ (A ++ B)) (e ∷ es) (IsPermutation-middle A e B) (IsPermutation-cons e (A ++ B) es all) in
    let back = IsPermutation-sym (es ++ e ∷ []) (e ∷ es) (IsPermutation-to_front es e) in
    subst (λ (xs : List Entry). IsPermutation xs (es ++ e ∷ [])) shape (IsPermutation-trans (A ++ e ∷ B) (e ∷ es) (es ++ e ∷ []) front back)

more_transfers : (accounts : List Account) (transfers : List Transfer) (t : Transfer) (es : List Entry) → IsPermutation (map Opened accounts ++ map Moved transfers) es → IsPermutation (map Opened accounts ++ map Moved (transfers ++ t ∷ [])) (es ++ Moved t ∷ [])
more_transfers accounts transfers t es all =
    let A = map Opened accounts in
    let B = map Moved transfers in
    let shape : (A ++ B) ++ Moved t ∷ [] ≡ A ++ map Moved (transfers ++ t ∷ []) = append_assoc A B (Moved t ∷ []) ∙ sym (ap (λ xs. A ++ xs) (map-append Moved transfers (t ∷ []))) in
    subst (λ (xs : List Entry). IsPermutation xs (es ++ Moved t ∷ [])) shape (IsPermutation-append_left (Moved t ∷ []) (A ++ B) es all)

-- without failed ids the machine is the replayed one at its clock
whole : (m : Machine) (es : List Entry) → m.failed ≡ [] → Replays es m → at_clock (machine_of es) m.clock ≡ m
whole m es none r = r.same ∙ λ i. record m { failed = sym none i }

-- an account is judged alike at an earlier clock
earlier_clock : (n : Machine) (clock c : ℕ) (a : Account) → IsNextAccount (at_clock n clock) a → a.timestamp ≤ c → c ≤ clock → IsNextAccount (at_clock n c) a
unfolding account_verdict_in
earlier_clock n clock c a next by le =
    let in_batch = next.timestamp.in_batch in
    record {
      widths = next.widths;
      timestamp = record {
        positive = next.timestamp.positive;
        after_accounts = next.timestamp.after_accounts;
        after_transfers = next.timestamp.after_transfers;
        in_batch = omega (arith, in_batch, le);
        by_clock = by;
      };
      accepted = next.accepted;
    }

next_opened : (m : Machine) (es : List Entry) (a : Account) → IsValid m → m.failed ≡ [] → Replays es m → IsNextAccount m a → IsNext (machine_of es) (Opened a)
next_opened m es a valid none r next =
    let n = machine_of es in
    let c = clock_for n (Opened a) in
    let bound = clock_bound m valid in
    let by = next.timestamp.by_clock in
    let no_later = r.no_later in
    record {
      clock = record { later = omega arith; bounded = omega arith };
      accepted = earlier_clock n m.clock c a (subst (λ (x : Machine). IsNextAccount x a) (sym (whole m es none r)) next) (omega arith) (omega arith);
    }

next_moved : (m : Machine) (es : List Entry) (t : Transfer) → IsValid m → m.failed ≡ [] → Replays es m → IsNextTransfer m t → IsNext (machine_of es) (Moved t)
next_moved m es t valid none r next =
    let n = machine_of es in
    let bound = clock_bound m valid in
    let no_later = r.no_later in
    let at = next.at in
    record {
      clock = record { later = omega (arith, at, no_later); bounded = omega (arith, at, bound) };
      accepted = subst (λ (x : Machine). IsNextTransfer x t) (sym (ap (at_clock n) next.at ∙ whole m es none r)) next;
    }

with_opened : (m : Machine) (a : Account) → IsValid m → m.failed ≡ [] → IsNextAccount m a → Built m → Built (with_account m a)
with_opened m a valid none next b =
    let es = b.entries in
    let e = Opened a in
    let is = next_opened m es a valid none b.replays next in
    let after = after_push new_machine es e in
    let by = next.timestamp.by_clock in
    let no_later = b.replays.no_later in
    record {
      entries = es ++ e ∷ [];
      ascending = ascending_push time_of es e b.ascending (earlier m b a.timestamp next.timestamp);
      all = more_accounts m.accounts m.transfers a es b.all;
      replays = record {
        next = next_push new_machine es e b.replays.next is;
        no_later = subst (λ (x : Machine). x.clock ≤ m.clock) (sym after) (omega arith);
        same = ap (λ (x : Machine). at_clock x m.clock) after ∙ ap (λ (x : Machine). with_account x a) b.replays.same;
      };
    }

with_moved : (m : Machine) (t : Transfer) → IsValid m → m.failed ≡ [] → IsNextTransfer m t → Built m → Built (with_transfer m t)
with_moved m t valid none next b =
    let es = b.entries in
    let e = Moved t in
    let is = next_moved m es t valid none b.replays next in
    let after = after_push new_machine es e in
    let at = next.at in
    record {
      entries = es ++ e ∷ [];
      ascending = ascending_push time_of es e b.ascending (earlier m b t.timestamp next.timestamp);
      all = more_transfers m.accounts m.transfers t es b.all;
      replays = record {
        next = next_push new_machine es e b.replays.next is;
        no_later = subst (λ (x : Machine). x.clock ≤ m.clock) (sym after) (omega (arith, at));
        same = ap (λ (x : Machine). at_clock x m.clock) after ∙ ap (λ (x : Machine). with_transfer x t) b.replays.same;
      };
    }

-- a failed id is there
one_failed : (id : ℕ) (ids : List ℕ) → with_id id ids ≡ [] → ⊥
one_failed id [] h = cc
one_failed id (x ∷ xs) h = by_tests (ltb id x) (eqb id x) id x xs (with_id id xs) h
  where
    by_tests : (less same : Bool) (id x : ℕ) (xs rest : List ℕ) → cond less (id ∷ x ∷ xs) (cond same (x ∷ xs) (x ∷ rest)) ≡ [] → ⊥
    by_tests true same id x xs rest h = cc
    by_tests false true id x xs rest h = cc
    by_tests false false id x xs rest h = cc

built : (m : Machine) → IsValid m → m.failed ≡ [] → Built m
built m IsValid.new_tenant none = record {
  entries = [];
  ascending = tt;
  all = IsPermutation-refl [];
  replays = record { next = tt; no_later = omega arith; same = refl };
}
built n (IsValid.later m clock valid le fits) none =
    let b = built m valid none in
    let r = b.replays in
    let no_later = r.no_later in
    record {
      entries = b.entries;
      ascending = b.ascending;
      all = b.all;
      replays = record { next = r.next; no_later = omega (arith, no_later, le); same = ap (λ (x : Machine). at_clock x clock) r.same };
    }
built n (IsValid.next_account m a valid next) none = with_opened m a valid none next (built m valid none)
built n (IsValid.next_transfer m t valid next) none = with_moved m t valid none next (built m valid none)
built n (IsValid.next_failed m id valid next) none = absurd (one_failed id m.failed none)

-- a valid machine is so with other failed ids that are apart from its entries
pub failed_apart : ValidExactlyEntryByEntry → FailedIdsStandApart
failed_apart given m ids valid apart = let v = (given m).0 valid in (given (record m { failed = ids })).1 (beside_others m m.clock ids v (omega arith) v.clock.bounded apart)

-- so it is without any
abbrev unfailed : Machine → Machine
unfailed m = record m { failed = [] }

none_apart : (m : Machine) → AreFailedApart (unfailed m)
none_apart m = record { ascend = λ i j d less within. absurd (omega arith); apart = All-nil (IsNextFailed (unfailed m)) }

-- entries in order are one list
abbrev pub OneOrder : Type 0
OneOrder = (key : Entry → ℕ) (xs ys : List Entry) → IsAscendingBy key xs → IsPermutation xs ys → IsSortedByKey key nat_cmp ys → xs ≡ ys

pub replays_of_valid : ValidExactlyEntryByEntry → OneOrder → (m : Machine) (es : List Entry) → IsValid m → AreEntriesOf es m → Replays es m
replays_of_valid given order m es valid are =
    let b = built (unfailed m) (failed_apart given m [] valid (none_apart m)) refl in
    let same = order time_of b.entries es b.ascending (IsPermutation-trans b.entries (entries_in m) es (IsPermutation-sym (entries_in m) b.entries b.all) are.all) are.in_order in
    let r = subst (λ (xs : List Entry). Replays xs (unfailed m)) same b.replays in
    record { next = r.next; no_later = r.no_later; same = r.same }
