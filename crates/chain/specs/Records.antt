-- The records of a valid machine: their times rise, and each is the one with its id.
use Rattle.std.specs.Prelude.{◌≡◌, ◌<◌, ◌≤◌, ℕ, All, List, [], ◌∷◌, ◌++◌, Bool, true, false, Some, map, filter}
use Rattle.std.proofs.Common.{arith, refl}
use Rattle.std.proofs.lemmas.List.Elements.{All-cons, All-filter, All-head, All-map, All-nil, All-push, All-tail, All-weaker}
use Rattle.records.specs.declared.account.Account.{Account}
use Rattle.records.specs.declared.filter.Order.TheVariants.{Oldest}
use Rattle.records.specs.declared.transfer.Transfer.{Transfer}
use Rattle.records.specs.Machine.{Machine, transfer_with}
use Rattle.records.specs.Reads.{Entry, entries_after, is_entry_of}
use Rattle.records.specs.Step.{max_clock}
use Rattle.records.specs.Valid.{IsValid}
use Rattle.chain.specs.declared.account_entry.AccountEntry.{AccountEntry}
use Rattle.chain.specs.AccountEntries.{account_entries, account_entry, entry_time}
use Rattle.chain.specs.Pages.{AreRecords, IsRecord, RunsIn}
use Rattle.engine.proofs.ValidMachineLemmas.{AreAscending, AreDistinct, accounts_ascend}
use Rattle.engine.proofs.ValidMachineLemmas.{clock_bound, found_itself, sound, transfers_ascend}
use Rattle.engine.proofs.ValidMachineLemmas.{with_key}

-- a time that a record has at this clock
IsPast : ℕ → ℕ → Type 0
IsPast clock time = (0 < time) × (time ≤ clock)

still_past :
    {A : Type 0} (time : A → ℕ) (clock later : ℕ) (records : List A) → clock ≤ later →
    All (λ it. IsPast clock (time it)) records → All (λ it. IsPast later (time it)) records
unfolding IsPast
still_past time clock later records le past =
    All-weaker (λ it. IsPast clock (time it)) (λ it. IsPast later (time it))
    (λ it h. (h.0, omega (arith, h.1))) records past

accounts_past :
    (m : Machine) → IsValid m → All (λ (a : Account). IsPast m.clock a.timestamp) m.accounts
unfolding IsPast
accounts_past m IsValid.new_tenant = All-nil (λ (a : Account). IsPast 0 a.timestamp)
accounts_past n (IsValid.later m clock valid le fits) =
    still_past (λ (a : Account). a.timestamp) m.clock clock m.accounts le (accounts_past m valid)
accounts_past n (IsValid.next_account m a valid next) =
    All-push (λ (x : Account). IsPast m.clock x.timestamp) m.accounts a (accounts_past m valid)
    (next.timestamp.positive, next.timestamp.by_clock)
accounts_past n (IsValid.next_transfer m t valid next) = accounts_past m valid
accounts_past n (IsValid.next_failed m id valid next) = accounts_past m valid

transfers_past :
    (m : Machine) → IsValid m → All (λ (t : Transfer). IsPast m.clock t.timestamp) m.transfers
unfolding IsPast
transfers_past m IsValid.new_tenant = All-nil (λ (t : Transfer). IsPast 0 t.timestamp)
transfers_past n (IsValid.later m clock valid le fits) =
    still_past (λ (t : Transfer). t.timestamp) m.clock clock m.transfers le (transfers_past m valid)
transfers_past n (IsValid.next_account m a valid next) = transfers_past m valid
transfers_past n (IsValid.next_transfer m t valid next) =
    All-push (λ (x : Transfer). IsPast m.clock x.timestamp) m.transfers t (transfers_past m valid)
    (next.timestamp.positive, next.timestamp.by_clock)
transfers_past n (IsValid.next_failed m id valid next) = transfers_past m valid

runs : {A : Type 0} (time : A → ℕ) (records : List A) → AreAscending time records →
    RunsIn time Oldest records
runs time [] ascending = tt
runs time (it ∷ more) ascending = (ascending.0, runs time more ascending.1)

-- records each of which is the one with its id
abbrev pub AreFoundById : {A : Type 0} → (A → ℕ) → (A → ℕ) → List A → Type 0
AreFoundById time id records =
    AreRecords time (λ it. with_key id (id it) records ≡ Some it) records

-- they rise and are past, and each id stands once
are_records :
    {A : Type 0} (time id : A → ℕ) (m : Machine) (records : List A) → IsValid m →
    AreAscending time records → All (λ it. IsPast m.clock (time it)) records →
    AreDistinct id records → AreFoundById time id records
unfolding IsPast
are_records time id m records valid ascending past distinct = record {
  rise = runs time records ascending;
  each = λ k d within. record {
    positive = (past k d within).0;
    bounded = omega (arith, (past k d within).1, clock_bound m valid);
    kept = found_itself id records distinct k d within;
  };
}

pub account_records :
    (m : Machine) → IsValid m →
    AreFoundById (λ (a : Account). a.timestamp) (λ a. a.id) m.accounts
account_records m valid =
    are_records (λ (a : Account). a.timestamp) (λ a. a.id) m m.accounts valid
    (accounts_ascend m valid) (accounts_past m valid) (sound m valid).accounts

pub transfer_records :
    (m : Machine) → IsValid m →
    AreFoundById (λ (t : Transfer). t.timestamp) (λ t. t.id) m.transfers
transfer_records m valid =
    are_records (λ (t : Transfer). t.timestamp) (λ t. t.id) m m.transfers valid
    (transfers_ascend m valid) (transfers_past m valid) (sound m valid).transfers

-- the account's entries of a list, behind those before it
entries_in : ℕ → List Transfer → List Transfer → List AccountEntry
entries_in account before transfers =
    map (account_entry account)
    (filter (λ entry. is_entry_of account entry.transfer) (entries_after before transfers))

each_entry :
    (P : ℕ → Type 0) (before transfers : List Transfer) →
    All (λ (t : Transfer). P t.timestamp) transfers →
    All (λ (e : Entry). P e.transfer.timestamp) (entries_after before transfers)
each_entry P before [] all = All-nil (λ (e : Entry). P e.transfer.timestamp)
each_entry P before (t ∷ transfers) all =
    All-cons (λ (e : Entry). P e.transfer.timestamp)
    (record { before = before ++ t ∷ []; transfer = t })
    (entries_after (before ++ t ∷ []) transfers)
    (All-head (λ (x : Transfer). P x.timestamp) t transfers all)
    (each_entry P (before ++ t ∷ []) transfers
    (All-tail (λ (x : Transfer). P x.timestamp) t transfers all))

each_own :
    (account : ℕ) (P : ℕ → Type 0) (before transfers : List Transfer) →
    All (λ (t : Transfer). P t.timestamp) transfers →
    All (λ (e : AccountEntry). P (entry_time e)) (entries_in account before transfers)
unfolding entries_in
each_own account P before transfers all =
    let own = λ (e : Entry). is_entry_of account e.transfer in
    All-map (λ (e : AccountEntry). P (entry_time e)) (account_entry account)
    (filter own (entries_after before transfers))
    (All-filter own (λ (e : Entry). P e.transfer.timestamp) (entries_after before transfers)
    (each_entry P before transfers all))

own_run :
    (account : ℕ) (before transfers : List Transfer) →
    RunsIn (λ (t : Transfer). t.timestamp) Oldest transfers →
    RunsIn entry_time Oldest (entries_in account before transfers)
unfolding entries_in
own_run account before [] run = tt
own_run account before (t ∷ transfers) run =
    own (is_entry_of account t) refl (own_run account (before ++ t ∷ []) transfers run.1)
  where
    own :
        (b : Bool) → is_entry_of account t ≡ b →
        RunsIn entry_time Oldest (entries_in account (before ++ t ∷ []) transfers) →
        RunsIn entry_time Oldest (entries_in account before (t ∷ transfers))
    own true is rest =
        rw is (each_own account (λ time. t.timestamp < time) (before ++ t ∷ []) transfers run.0, rest)
    own false is rest = rw is rest

pub entry_records :
    (m : Machine) → IsValid m → (account : ℕ) →
    AreRecords entry_time (λ e. Unit {0}) (account_entries m account)
unfolding entries_in
entry_records m valid account =
    let are = transfer_records m valid in
    let there = λ (t : Transfer). transfer_with t.id m.transfers ≡ Some t in
    let is_time = λ (time : ℕ). (0 < time) × (time ≤ max_clock) in record {
      rise = own_run account [] m.transfers are.rise;
      each =
          All-weaker (λ (e : AccountEntry). is_time (entry_time e))
          (IsRecord entry_time (λ e. Unit {0}))
          (λ e h. record { positive = h.0; bounded = h.1; kept = tt }) (account_entries m account)
          (each_own account is_time [] m.transfers
          (All-weaker (IsRecord (λ (t : Transfer). t.timestamp) there)
          (λ (t : Transfer). is_time t.timestamp)
          (λ t h. (h.positive, h.bounded)) m.transfers are.each));
    }
