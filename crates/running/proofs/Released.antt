-- One due transfer after the other is released, until none is left.
use Rattle.std.proofs.Common.{◌≡◌, ◌≤◌, ℕ, true, false, List, [], ◌∷◌, ◌++◌, append-nil, append_assoc, Option, Some, None, refl, sym, ap, ◌∙◌, subst}
use Rattle.std.specs.BTreeMap as tree
use Rattle.std.specs.Ordering.{nat_cmp}
use Rattle.std.specs.List.Sorted.{IsPermutation}
use Rattle.std.proofs.lemmas.Option.{same_Some}
use Rattle.std.proofs.lemmas.List.Sorted.{IsPermutation-trans, IsPermutation-append_right}
use Rattle.records.specs.declared.account.Account.{Account}
use Rattle.records.specs.declared.transfer.Transfer.{Transfer}
use Rattle.records.specs.declared.side.Side.TheVariants.{Debit, Credit}
use Rattle.records.specs.declared.balances.Balances.{Balances}
use Rattle.records.specs.declared.facts.AccountWithBalances.{AccountWithBalances}
use Rattle.records.specs.declared.facts.PendingState.TheVariants.{Expired}
use Rattle.records.specs.Machine.{Machine, account_with, transfer_with}
use Rattle.records.specs.Step.{at_clock, max_clock}
use Rattle.records.specs.Valid.{IsValid}
use Rattle.engine.specs.After.{balances_released}
use Rattle.rows.specs.declared.balance_row.BalanceRow.{BalanceRow}
use Rattle.rows.specs.declared.status_row.StatusRow.{StatusRow}
use Rattle.rows.specs.TypedRows.{TypedRows}
use Rattle.rows.specs.Prescribed.{rows_for}
use Rattle.rows.specs.SameRows.{account_from}
use Rattle.rows.specs.Changes.{set_both, set_state, with_expired}
use Rattle.rows.specs.Settling.{is_due_row, is_past_with, balance_row_when, rows_when, rows_released, due_ids, IsNextRelease}
use Rattle.engine.proofs.ValidMachineLemmas.{sound}
use Rattle.running.specs.declared.running.Running.{Running}
use Rattle.running.specs.declared.statuses.Statuses.{Statuses}
use Rattle.running.specs.declared.transfers.Transfers.{Transfers}
use Rattle.running.specs.Holds.{HoldsAccounts, HoldsTransfers, HoldsStatuses, HasBalances, balance_with, status_with}
use Rattle.running.specs.Running.{Agrees, IsLast, IsRunning}
use Rattle.running.specs.Releasing.{IsReleasing}
use Rattle.running.proofs.KeyedRows.{none_mapped}
use Rattle.running.proofs.DueRows.{ids_due, one_expired, none_left_due, statuses_apart}

-- a transfer that is due, and the due ones that are left behind it
pub record IsDueNow (m : Machine) (clock : ℕ) (done : List ℕ) (id : ℕ) : Type 0 where
  pub row : StatusRow
  pub found : status_with id (rows_released m done).statuses ≡ Some row
  pub due : is_due_row clock row ≡ true

abbrev left_behind : Machine → ℕ → List ℕ → ℕ → List ℕ
left_behind m clock done id = ids_due clock (set_state id Expired (rows_released m done).statuses)

pub left_with : (m : Machine) (clock : ℕ) (done : List ℕ) (id : ℕ) (r : Running) → IsReleasing m clock done r → IsDueNow m clock done id → IsPermutation (due_ids clock (rows_for 3 m)) (done ++ id ∷ left_behind m clock done id)
left_with m clock done id r is d =
    let rows = (rows_released m done).statuses in
    IsPermutation-trans (due_ids clock (rows_for 3 m)) (done ++ ids_due clock rows) (done ++ id ∷ left_behind m clock done id) is.left
    (IsPermutation-append_right done (ids_due clock rows) (id ∷ left_behind m clock done id) (one_expired clock id rows d.row (statuses_apart m done (sound m is.valid)) d.found d.due))

-- the law on the next release, as the crate of rows states it
abbrev pub NextLaw : Type 0
NextLaw = (m : Machine) (clock : ℕ) (done rest : List ℕ) (id : ℕ) → IsValid m → IsPermutation (due_ids clock (rows_for 3 m)) (done ++ id ∷ rest) → (t : Transfer) × (debit : Balances) × (credit : Balances) × IsNextRelease m done id t debit credit

-- accounts that have a balance row are there
there_with : (map : tree.BTreeMap ℕ AccountWithBalances) (id : ℕ) (b : Balances) (found : Option Account) (row : Option BalanceRow) → tree.get nat_cmp map id ≡ account_from found row → row ≡ Some (record { account = id; balances = b }) → (found ≡ None → row ≡ None) → HasBalances map id b
there_with map id b None row is has none = absurd (cc (none refl))
there_with map id b (Some a) row is has none = (a, is ∙ ap (account_from (Some a)) has)

pub has_balances : (m : Machine) (done : List ℕ) (id : ℕ) (b : Balances) (r : Running) → Agrees (rows_released m done) r → balance_with id (rows_released m done).balances ≡ Some (record { account = id; balances = b }) → HasBalances r.accounts id b
unfolding rows_when
has_balances m done id b r agrees found = there_with r.accounts id b (account_with id m.accounts) (balance_with id (rows_released m done).balances) (agrees.accounts id) found (none_mapped (λ (a : Account). a.id) (λ (x : BalanceRow). x.account) (balance_row_when (is_past_with m.clock done) m) (λ a. refl) id m.accounts)

-- the transfer that is released, with the balances of its accounts
pub record ReleaseOf (m : Machine) (done : List ℕ) (id : ℕ) (r : Running) (t : Transfer) : Type 0 where
  pub debit : Balances
  pub credit : Balances
  pub next : IsNextRelease m done id t debit credit
  pub has_debit : HasBalances r.accounts t.debit_account_id debit
  pub has_credit : HasBalances r.accounts t.credit_account_id credit

release_by : NextLaw → (m : Machine) (clock : ℕ) (done : List ℕ) (id : ℕ) (r : Running) → IsReleasing m clock done r → IsDueNow m clock done id → (t : Transfer) × ReleaseOf m done id r t
release_by law m clock done id r is d =
    let n = law m clock done (left_behind m clock done id) id is.valid (left_with m clock done id r is d) in (
      n.0,
      record {
        debit = n.1;
        credit = n.2;
        next = n.3;
        has_debit = has_balances m done n.0.debit_account_id n.1 r is.agrees n.3.debit_found;
        has_credit = has_balances m done n.0.credit_account_id n.2 r is.agrees n.3.credit_found;
      },
    )

pub release_found : NextLaw → (m : Machine) (clock : ℕ) (done : List ℕ) (id : ℕ) (r : Running) → IsReleasing m clock done r → IsDueNow m clock done id → (t : Transfer) × (transfer_with id (rows_released m done).transfers ≡ Some t)
unfolding rows_when
release_found law m clock done id r is d = let n = release_by law m clock done id r is d in (n.0, n.1.next.found)

pub release_of : NextLaw → (m : Machine) (clock : ℕ) (done : List ℕ) (id : ℕ) (r : Running) (t : Transfer) → IsReleasing m clock done r → IsDueNow m clock done id → transfer_with id (rows_released m done).transfers ≡ Some t → ReleaseOf m done id r t
unfolding rows_when
release_of law m clock done id r t is d found =
    let n = release_by law m clock done id r is d in
    subst (λ (x : Transfer). ReleaseOf m done id r x) (same_Some n.0 t (sym n.1.next.found ∙ found)) n.1

-- without it
pub one_released : (m : Machine) (clock : ℕ) (done : List ℕ) (id : ℕ) (t : Transfer) (old new : Running) → IsReleasing m clock done old → IsDueNow m clock done id → (n : ReleaseOf m done id old t)
    → HoldsStatuses (set_state id Expired (rows_released m done).statuses) new.statuses
    → HoldsAccounts (rows_released m done).accounts (set_both t (balances_released Debit n.debit t.amount) (balances_released Credit n.credit t.amount) (rows_released m done).balances) new.accounts
    → new.last ≡ old.last → new.transfers ≡ old.transfers
    → IsReleasing m clock (done ++ id ∷ []) new
unfolding with_expired
one_released m clock done id t old new is d n statuses accounts last transfers =
    let rows = rows_released m done in
    let leaves = n.next.leaves in
    let same = n.next.id_is in
    record {
      valid = is.valid;
      none_failed = is.none_failed;
      later = is.later;
      last = subst (λ (x : ℕ). IsLast m x) (sym last) is.last;
      agrees = subst (λ (x : TypedRows). Agrees x new) (sym leaves) (record {
        accounts = accounts;
        transfers = subst (λ (x : Transfers). HoldsTransfers rows.transfers x) (sym transfers) is.agrees.transfers;
        statuses = subst (λ (k : ℕ). HoldsStatuses (set_state k Expired rows.statuses) new.statuses) (sym same) statuses;
      });
      left =
          let whole = left_with m clock done id old is d in
          let behind : left_behind m clock done id ≡ due_ids clock (rows_released m (done ++ id ∷ [])) = ap (λ (k : ℕ). ids_due clock (set_state k Expired rows.statuses)) (sym same) ∙ sym (ap (due_ids clock) leaves) in
          subst (λ (ids : List ℕ). IsPermutation (due_ids clock (rows_for 3 m)) ids) (sym (append_assoc done (id ∷ []) (left_behind m clock done id)) ∙ ap (λ (ids : List ℕ). (done ++ id ∷ []) ++ ids) behind) whole;
    }

-- nothing changes where the statuses hold the same rows
pub still_releasing : (m : Machine) (clock : ℕ) (done : List ℕ) (old new : Running) → IsReleasing m clock done old → HoldsStatuses (rows_released m done).statuses new.statuses
    → new.last ≡ old.last → new.accounts ≡ old.accounts → new.transfers ≡ old.transfers
    → IsReleasing m clock done new
still_releasing m clock done old new is statuses last accounts transfers = record {
  valid = is.valid;
  none_failed = is.none_failed;
  later = is.later;
  last = subst (λ (x : ℕ). IsLast m x) (sym last) is.last;
  agrees = record {
    accounts = λ q. ap (λ (x : tree.BTreeMap ℕ AccountWithBalances). tree.get nat_cmp x q) accounts ∙ is.agrees.accounts q;
    transfers = subst (λ (x : Transfers). HoldsTransfers (rows_released m done).transfers x) (sym transfers) is.agrees.transfers;
    statuses = statuses;
  };
  left = is.left;
}

-- none is due any more
pub none_due : (m : Machine) (clock : ℕ) (done : List ℕ) (r : Running) → IsReleasing m clock done r → ((id : ℕ) (row : StatusRow) → status_with id (rows_released m done).statuses ≡ Some row → is_due_row clock row ≡ false) → due_ids clock (rows_released m done) ≡ []
none_due m clock done r is none = none_left_due clock (rows_released m done).statuses (statuses_apart m done (sound m is.valid)) none

-- at the later clock
abbrev pub LastLaw : Type 0
LastLaw = (m : Machine) (clock : ℕ) (ids : List ℕ) → IsValid m → m.clock ≤ clock → IsPermutation (due_ids clock (rows_for 3 m)) ids → rows_for 3 (at_clock m clock) ≡ record (rows_released m ids) { clock = clock }

pub settled : LastLaw → (m : Machine) (clock : ℕ) (done : List ℕ) (old new : Running) → IsReleasing m clock done old → due_ids clock (rows_released m done) ≡ [] → clock ≤ max_clock
    → new.clock ≡ clock → new.last ≡ old.last → new.accounts ≡ old.accounts → new.transfers ≡ old.transfers → new.statuses ≡ old.statuses
    → IsRunning (at_clock m clock) new
settled law m clock done old new is none fits time last accounts transfers statuses =
    let all = subst (λ (ids : List ℕ). IsPermutation (due_ids clock (rows_for 3 m)) ids) (ap (λ (ids : List ℕ). done ++ ids) none ∙ append-nil done) is.left in
    let is_last = subst (λ (x : ℕ). IsLast m x) (sym last) is.last in
    record {
      valid = IsValid.later m clock is.valid is.later fits;
      none_failed = is.none_failed;
      clock = time;
      last = record {
        after = λ s less. let a = is_last.after s less in record { positive = a.positive; accounts = a.accounts; transfers = a.transfers };
        only_after = λ s a. is_last.only_after s (record { positive = a.positive; accounts = a.accounts; transfers = a.transfers });
      };
      agrees = subst (λ (x : TypedRows). Agrees x new) (sym (law m clock done is.valid is.later all)) (record {
        accounts = λ q. ap (λ (x : tree.BTreeMap ℕ AccountWithBalances). tree.get nat_cmp x q) accounts ∙ is.agrees.accounts q;
        transfers = subst (λ (x : Transfers). HoldsTransfers (rows_released m done).transfers x) (sym transfers) is.agrees.transfers;
        statuses = subst (λ (x : Statuses). HoldsStatuses (rows_released m done).statuses x) (sym statuses) is.agrees.statuses;
      });
    }
