-- What the next account, or transfer, makes of what a running tenant says.
use Rattle.std.proofs.Common.{◌≡◌, ◌≤◌, ◌<◌, ◌^◌, ℕ, List, [], ◌∷◌, ◌++◌, Option, Some, None, refl, sym, ap, ◌∙◌, subst, arith, rules}
use Rattle.std.specs.BTreeMap as tree
use Rattle.std.specs.BTreeMap.{is_at}
use Rattle.std.specs.Map.{lookup}
use Rattle.std.specs.Ordering.{nat_cmp}
use Rattle.std.specs.List.{filter, All}
use Rattle.std.proofs.lemmas.List.Elements.{All-nil, All-head, All-tail, All-weaker, All-push}
use Rattle.std.proofs.lemmas.List.Sorted.{IsPermutation-refl}
use Rattle.records.specs.declared.account.Account.{Account}
use Rattle.records.specs.declared.transfer.Transfer.{Transfer}
use Rattle.records.specs.declared.accepted.Accepted.{Accepted}
use Rattle.records.specs.declared.accepted.Ending.{Ending}
use Rattle.records.specs.declared.accepted.Ending.TheVariants.{Posted, Voided}
use Rattle.records.specs.declared.facts.PendingState.TheVariants as state
use Rattle.records.specs.Flags.{is_pending}
use Rattle.records.specs.Machine.{Machine, new_machine, account_with, transfer_with}
use Rattle.records.specs.Accepted.{IsAccepted}
use Rattle.records.specs.Valid.{IsValid, IsNextAccount, IsNextTransfer, with_account, with_transfer}
use Rattle.rows.specs.declared.balance_row.BalanceRow.{BalanceRow}
use Rattle.rows.specs.declared.status_row.StatusRow.{StatusRow}
use Rattle.rows.specs.TypedRows.{TypedRows}
use Rattle.rows.specs.Prescribed.{rows_for, balance_row, status_row, status_rows}
use Rattle.rows.specs.SameRows.{AreSameRows}
use Rattle.rows.specs.Changes.{with_opened, with_accepted, new_balance, set_both, ended, new_statuses}
use Rattle.engine.proofs.ValidMachineLemmas.{account_unknown, next_entry_of, clock_bound}
use Rattle.running.specs.declared.running.Running.{Running}
use Rattle.running.specs.declared.statuses.Statuses.{Statuses}
use Rattle.running.specs.declared.transfers.Transfers.{Transfers}
use Rattle.running.specs.Holds.{HoldsAccounts, HoldsTransfers, HoldsStatuses, balance_with, status_with}
use Rattle.running.specs.Running.{Agrees, IsLast, IsRunning}
use Rattle.running.proofs.KeyedRows.{none_mapped, none_filtered, stays_none}

-- the last timestamp
all_last : {A : Type 0} (P : A → Type 0) (xs : List A) (x : A) → All P (xs ++ x ∷ []) → P x
all_last P [] x all = All-head P x [] all
all_last P (y ∷ ys) x all = all_last P ys x (All-tail P y (ys ++ x ∷ []) all)

last_account : (m : Machine) (a : Account) → IsNextAccount m a → IsLast (with_account m a) a.timestamp
last_account m a next = record {
  after = λ s less. record {
    positive = omega (arith, less);
    accounts = All-push (λ (x : Account). x.timestamp < s) m.accounts a (All-weaker (λ (x : Account). x.timestamp < a.timestamp) (λ (x : Account). x.timestamp < s) (λ x h. omega (arith, h, less)) m.accounts next.timestamp.after_accounts) less;
    transfers = All-weaker (λ (t : Transfer). t.timestamp < a.timestamp) (λ (t : Transfer). t.timestamp < s) (λ t h. omega (arith, h, less)) m.transfers next.timestamp.after_transfers;
  };
  only_after = λ s after. all_last (λ (x : Account). x.timestamp < s) m.accounts a after.accounts;
}

last_transfer : (m : Machine) (t : Transfer) → IsNextTransfer m t → IsLast (with_transfer m t) t.timestamp
last_transfer m t next = record {
  after = λ s less. record {
    positive = omega (arith, less);
    accounts = All-weaker (λ (a : Account). a.timestamp < t.timestamp) (λ (a : Account). a.timestamp < s) (λ a h. omega (arith, h, less)) m.accounts next.timestamp.after_accounts;
    transfers = All-push (λ (x : Transfer). x.timestamp < s) m.transfers t (All-weaker (λ (x : Transfer). x.timestamp < t.timestamp) (λ (x : Transfer). x.timestamp < s) (λ x h. omega (arith, h, less)) m.transfers next.timestamp.after_transfers) less;
  };
  only_after = λ s after. all_last (λ (x : Transfer). x.timestamp < s) m.transfers t after.transfers;
}

-- rows are the same as themselves
pub same_itself : (rows : TypedRows) → AreSameRows rows rows
same_itself rows = search (rules, IsPermutation-refl)

-- with one account more
pub opened : (m : Machine) (a : Account) (old new : Running) → IsRunning m old → IsNextAccount m a
    → rows_for 3 (with_account m a) ≡ with_opened a (rows_for 3 m)
    → ((accounts : List Account) (balances : List BalanceRow) → HoldsAccounts accounts balances old.accounts → account_with a.id accounts ≡ None → balance_with a.id balances ≡ None → HoldsAccounts (accounts ++ a ∷ []) (balances ++ new_balance a ∷ []) new.accounts)
    → new.clock ≡ old.clock → new.last ≡ a.timestamp → new.transfers ≡ old.transfers → new.statuses ≡ old.statuses
    → IsRunning (with_account m a) new
unfolding rows_for with_opened
opened m a old new is next law step clock last transfers statuses =
    let unknown = account_unknown m a next in
    let none = none_mapped (λ (x : Account). x.id) (λ (x : BalanceRow). x.account) (balance_row m) (λ x. refl) a.id m.accounts unknown in
    let rows = rows_for 3 m in
    record {
      valid = IsValid.next_account m a is.valid next;
      none_failed = is.none_failed;
      clock = clock ∙ is.clock;
      last = subst (λ (n : ℕ). IsLast (with_account m a) n) (sym last) (last_account m a next);
      agrees = subst (λ (x : TypedRows). Agrees x new) (sym law) (record {
        accounts = step rows.accounts rows.balances is.agrees.accounts unknown none;
        transfers = subst (λ (x : Transfers). HoldsTransfers rows.transfers x) (sym transfers) is.agrees.transfers;
        statuses = subst (λ (x : Statuses). HoldsStatuses rows.statuses x) (sym statuses) is.agrees.statuses;
      });
    }

-- the status rows have no row of a new transfer, also once one of them is ended
none_ended : (ends : Option Ending) (id : ℕ) (rows : List StatusRow) → status_with id rows ≡ None → status_with id (ended ends rows) ≡ None
none_ended None id rows none = none
none_ended (Some (Posted k)) id rows none = stays_none (λ (r : StatusRow). r.transfer) (λ (r : StatusRow). record r { state = state.Posted }) (λ r. refl) k id rows none
none_ended (Some (Voided k)) id rows none = stays_none (λ (r : StatusRow). r.transfer) (λ (r : StatusRow). record r { state = state.Voided }) (λ r. refl) k id rows none

no_status : (m : Machine) (id : ℕ) → transfer_with id m.transfers ≡ None → status_with id (status_rows m) ≡ None
no_status m id unknown =
    let pends = λ (t : Transfer). is_pending t.flags in
    none_mapped (λ (t : Transfer). t.id) (λ (r : StatusRow). r.transfer) (status_row m) (λ t. refl) id (filter pends m.transfers) (none_filtered (λ (t : Transfer). t.id) pends id m.transfers unknown)

-- with one transfer more
pub kept : (m : Machine) (a : Accepted) (old new : Running) (ended_statuses : Statuses) → IsRunning m old → IsAccepted m a
    → rows_for 3 (with_transfer m a.stored) ≡ with_accepted a (rows_for 3 m)
    → ((rows : List StatusRow) → HoldsStatuses rows old.statuses → HoldsStatuses (ended a.ends rows) ended_statuses)
    → ((rows : List StatusRow) → HoldsStatuses rows ended_statuses → status_with a.stored.id rows ≡ None → HoldsStatuses (rows ++ new_statuses a.stored) new.statuses)
    → ((transfers : List Transfer) → HoldsTransfers transfers old.transfers → transfer_with a.stored.id transfers ≡ None → HoldsTransfers (transfers ++ a.stored ∷ []) new.transfers)
    → ((accounts : List Account) (rows : List BalanceRow) → HoldsAccounts accounts rows old.accounts → HoldsAccounts accounts (set_both a.stored a.debit_after a.credit_after rows) new.accounts)
    → new.clock ≡ old.clock → new.last ≡ a.stored.timestamp
    → IsRunning (with_transfer m a.stored) new
unfolding rows_for with_accepted
kept m a old new ended_statuses is accepted law end add keep set clock last =
    let unknown = (next_entry_of m a.stored accepted.next).unknown in
    let none = none_ended a.ends a.stored.id (status_rows m) (no_status m a.stored.id unknown) in
    let rows = rows_for 3 m in
    record {
      valid = IsValid.next_transfer m a.stored is.valid accepted.next;
      none_failed = is.none_failed;
      clock = clock ∙ is.clock;
      last = subst (λ (n : ℕ). IsLast (with_transfer m a.stored) n) (sym last) (last_transfer m a.stored accepted.next);
      agrees = subst (λ (x : TypedRows). Agrees x new) (sym law) (record {
        accounts = set rows.accounts rows.balances is.agrees.accounts;
        transfers = keep rows.transfers is.agrees.transfers unknown;
        statuses = add (ended a.ends rows.statuses) (end rows.statuses is.agrees.statuses) none;
      });
    }

-- its timestamp is one that a due time can be told of
pub by_the_end : (m : Machine) (a : Accepted) → IsValid m → IsAccepted m a → a.stored.timestamp ≤ 2 ^ 62
by_the_end m a valid is = omega (arith, clock_bound m valid, is.next.timestamp.by_clock)

-- without entries
pub new_tenant : (r : Running) → r.clock ≡ 0 → r.last ≡ 0 → tree.IsEmpty r.accounts → HoldsTransfers [] r.transfers → HoldsStatuses [] r.statuses → IsRunning new_machine r
unfolding rows_for
new_tenant r clock last accounts transfers statuses = record {
  valid = IsValid.new_tenant;
  none_failed = refl;
  clock = clock;
  last = record {
    after = λ s less. record { positive = subst (λ (n : ℕ). n < s) last less; accounts = All-nil (λ (a : Account). a.timestamp < s); transfers = All-nil (λ (t : Transfer). t.timestamp < s) };
    only_after = λ s after. subst (λ (n : ℕ). n < s) (sym last) after.positive;
  };
  agrees = record {
    accounts = λ q. ap (lookup (is_at (nat_cmp q))) accounts;
    transfers = transfers;
    statuses = statuses;
  };
}
