-- The rows of a valid machine are within the widths of a file.
use Rattle.std.proofs.Common.{◌<◌, ◌≤◌, ◌+◌, ◌*◌, ◌^◌, ℕ, Bool, true, false, cond, leb, List, [], ◌∷◌, Some, None, refl, sym, subst, arith}
use Rattle.std.specs.List.{All, filter}
use Rattle.std.proofs.lemmas.List.Elements.{All-nil, All-cons, All-push, All-append, All-weaker, All-map, All-filter}
use Rattle.records.specs.declared.account.Account.{Account}
use Rattle.records.specs.declared.transfer.Transfer.{Transfer}
use Rattle.records.specs.declared.side.Side.TheVariants.{Debit, Credit}
use Rattle.records.specs.declared.balances.Balances.{Balances}
use Rattle.records.specs.declared.accepted.Accepted.{Accepted}
use Rattle.records.specs.Flags.{is_pending}
use Rattle.records.specs.Machine.{Machine}
use Rattle.records.specs.Balances.{balances_in}
use Rattle.records.specs.Step.{max_clock}
use Rattle.records.specs.Widths.{IsAccountInWidth, IsTransferInWidth}
use Rattle.records.specs.Accepted.{IsAccepted, ending_of}
use Rattle.records.specs.Valid.{IsValid, with_transfer}
use Rattle.engine.specs.Promises.{IsFailedId}
use Rattle.engine.proofs.ValidMachineLemmas.{IsSound, sound, clock_bound}
use Rattle.rows.specs.declared.history_row.HistoryRow.{HistoryRow}
use Rattle.rows.specs.StatusNumbers.{IsStorableDue}
use Rattle.rows.specs.Widths.{IsStorableAccount, IsStorableTransfer, AreBalancesInWidth, IsStorableBalance, IsStorableStatus, IsStorableHistory, AreStorable}
use Rattle.rows.specs.Prescribed.{balance_row, balance_rows, status_row, status_rows, history_rows, rows_for}
use Rattle.rows.specs.Changes.{new_history}
use Rattle.rows.proofs.NextBalances.{history_push}

-- entries with their widths, made by the clock
record IsOpenedBy (clock : ℕ) (a : Account) : Type 0 where
  widths : IsAccountInWidth a
  by_clock : a.timestamp ≤ clock

record IsMadeBy (clock : ℕ) (t : Transfer) : Type 0 where
  widths : IsTransferInWidth t
  positive : 0 < t.timestamp
  by_clock : t.timestamp ≤ clock
  in_batch : t.at ≤ clock

accounts_by_clock : (m : Machine) → IsValid m → All (IsOpenedBy m.clock) m.accounts
accounts_by_clock m IsValid.new_tenant = All-nil (IsOpenedBy 0)
accounts_by_clock n (IsValid.later m clock valid le fits) = All-weaker (IsOpenedBy m.clock) (IsOpenedBy clock) (λ a h. record { widths = h.widths; by_clock = omega (arith, h.by_clock) }) m.accounts (accounts_by_clock m valid)
accounts_by_clock n (IsValid.next_account m a valid next) = All-push (IsOpenedBy m.clock) m.accounts a (accounts_by_clock m valid) (record { widths = next.widths; by_clock = next.timestamp.by_clock })
accounts_by_clock n (IsValid.next_transfer m t valid next) = accounts_by_clock m valid
accounts_by_clock n (IsValid.next_failed m id valid next) = accounts_by_clock m valid

transfers_by_clock : (m : Machine) → IsValid m → All (IsMadeBy m.clock) m.transfers
transfers_by_clock m IsValid.new_tenant = All-nil (IsMadeBy 0)
transfers_by_clock n (IsValid.later m clock valid le fits) =
    All-weaker (IsMadeBy m.clock) (IsMadeBy clock) (λ t h. record { widths = h.widths; positive = h.positive; by_clock = omega (arith, h.by_clock); in_batch = omega (arith, h.in_batch) }) m.transfers (transfers_by_clock m valid)
transfers_by_clock n (IsValid.next_account m a valid next) = transfers_by_clock m valid
transfers_by_clock n (IsValid.next_transfer m t valid next) =
    All-push (IsMadeBy m.clock) m.transfers t (transfers_by_clock m valid) (record { widths = next.widths; positive = next.timestamp.positive; by_clock = next.timestamp.by_clock; in_batch = omega (arith, next.at) })
transfers_by_clock n (IsValid.next_failed m id valid next) = transfers_by_clock m valid

accounts_fit : (m : Machine) → IsValid m → All IsStorableAccount m.accounts
accounts_fit m valid = All-weaker (IsOpenedBy m.clock) IsStorableAccount (λ a h. record { widths = h.widths; timestamp = omega (arith, h.by_clock, clock_bound m valid) }) m.accounts (accounts_by_clock m valid)

transfers_fit : (m : Machine) → IsValid m → All IsStorableTransfer m.transfers
transfers_fit m valid =
    All-weaker (IsMadeBy m.clock) IsStorableTransfer (λ t h. record { widths = h.widths; timestamp = omega (arith, h.by_clock, clock_bound m valid); at = omega (arith, h.in_batch, clock_bound m valid) }) m.transfers (transfers_by_clock m valid)

-- both sums of a side are an amount, so each is
balances_fit : (m : Machine) (id : ℕ) → IsSound m → AreBalancesInWidth (balances_in m id)
balances_fit m id s = record {
  debits_pending = omega (arith, s.sums Debit id);
  debits_posted = omega (arith, s.sums Debit id);
  credits_pending = omega (arith, s.sums Credit id);
  credits_posted = omega (arith, s.sums Credit id);
}

balance_rows_fit : (m : Machine) → IsValid m → All IsStorableBalance (balance_rows m)
balance_rows_fit m valid =
    let s = sound m valid in
    All-map IsStorableBalance (balance_row m) m.accounts (All-weaker IsStorableAccount (λ a. IsStorableBalance (balance_row m a)) (λ a h. record { account = h.widths.id; balances = balances_fit m a.id s }) m.accounts (accounts_fit m valid))

due_fits : (some : Bool) (timestamp timeout : ℕ) → 0 < timestamp → timestamp ≤ max_clock → timeout < 2 ^ 32 → IsStorableDue (cond some (Some (timestamp + timeout * 10 ^ 9)) None)
due_fits true timestamp timeout some by_clock fits = (omega arith, omega arith)
due_fits false timestamp timeout some by_clock fits = tt

status_rows_fit : (m : Machine) → IsValid m → All IsStorableStatus (status_rows m)
status_rows_fit m valid =
    let pends = λ (t : Transfer). is_pending t.flags in
    let one = λ (t : Transfer) (h : IsMadeBy m.clock t). let row : IsStorableStatus (status_row m t) = record {
      transfer = h.widths.id;
      due = due_fits _ t.timestamp t.timeout h.positive (omega (arith, h.by_clock, clock_bound m valid)) h.widths.timeout;
    } in row in
    All-map IsStorableStatus (status_row m) (filter pends m.transfers) (All-filter pends (λ t. IsStorableStatus (status_row m t)) m.transfers (All-weaker (IsMadeBy m.clock) (λ t. IsStorableStatus (status_row m t)) one m.transfers (transfers_by_clock m valid)))

-- history rows were balances of the machine when they were written
abbrev accepted_of : Machine → Transfer → Accepted
accepted_of m t = record {
  stored = t;
  debit_after = balances_in (with_transfer m t) t.debit_account_id;
  credit_after = balances_in (with_transfer m t) t.credit_account_id;
  ends = ending_of t;
}

pub history_rows_fit : (m : Machine) → IsValid m → All IsStorableHistory (history_rows m)
history_rows_fit m IsValid.new_tenant = All-nil IsStorableHistory
history_rows_fit n (IsValid.later m clock valid le fits) = history_rows_fit m valid
history_rows_fit n (IsValid.next_account m a valid next) = history_rows_fit m valid
history_rows_fit n (IsValid.next_failed m id valid next) = history_rows_fit m valid
history_rows_fit n (IsValid.next_transfer m t valid next) =
    let a = accepted_of m t in
    let is : IsAccepted m a = record { next = next; debit_after = refl; credit_after = refl; ends = refl } in
    let s = sound n (IsValid.next_transfer m t valid next) in
    let row : ℕ → Balances → HistoryRow = λ account balances. record { account = account; timestamp = t.timestamp; balances = balances } in
    subst (All IsStorableHistory) (sym (history_push m a is))
    (All-append IsStorableHistory (history_rows m) (new_history a) (history_rows_fit m valid)
    (All-cons IsStorableHistory (row t.debit_account_id a.debit_after) (row t.credit_account_id a.credit_after ∷ []) (record { account = next.widths.debit_account_id; timestamp = omega (arith, next.timestamp.by_clock, clock_bound m valid); balances = balances_fit (with_transfer m t) t.debit_account_id s })
    (All-cons IsStorableHistory (row t.credit_account_id a.credit_after) [] (record { account = next.widths.credit_account_id; timestamp = omega (arith, next.timestamp.by_clock, clock_bound m valid); balances = balances_fit (with_transfer m t) t.credit_account_id s }) (All-nil IsStorableHistory))))

failed_fit : (m : Machine) → IsValid m → All (λ (id : ℕ). id < 2 ^ 128) m.failed
failed_fit m valid = All-weaker (IsFailedId m.transfers) (λ (id : ℕ). id < 2 ^ 128) (λ id h. omega (arith, h.below_max)) m.failed (sound m valid).failed

-- in each version
since_by : {A : Type 0} (P : A → Type 0) (known : Bool) (xs : List A) → All P xs → All P (cond known xs [])
since_by P true xs all = all
since_by P false xs all = All-nil P

pub rows_fit : (version : ℕ) (m : Machine) → IsValid m → AreStorable (rows_for version m)
unfolding rows_for
rows_fit version m valid = record {
  clock = omega (arith, clock_bound m valid);
  accounts = accounts_fit m valid;
  transfers = transfers_fit m valid;
  balances = since_by IsStorableBalance (leb 2 version) (balance_rows m) (balance_rows_fit m valid);
  statuses = since_by IsStorableStatus (leb 2 version) (status_rows m) (status_rows_fit m valid);
  history = since_by IsStorableHistory (leb 2 version) (history_rows m) (history_rows_fit m valid);
  failed = since_by (λ (id : ℕ). id < 2 ^ 128) (leb 3 version) m.failed (failed_fit m valid);
}
