-- The rows on the way to a later clock, as one due transfer after the other is released.
use Rattle.std.specs.Prelude.{◌≡◌, ℕ, ◌≤◌, Bool, ◌&&◌, ◌||◌, List, [], ◌∷◌, ◌++◌, map, filter, Some, if◌then◌else◌}
use Rattle.std.specs.List.{list_any, sum_by}
use Rattle.records.specs.declared.account.Account.{Account}
use Rattle.records.specs.declared.transfer.Transfer.{Transfer}
use Rattle.records.specs.declared.side.Side.{Side}
use Rattle.records.specs.declared.side.Side.TheVariants.{Debit, Credit}
use Rattle.records.specs.declared.balances.Sums.{Sums}
use Rattle.records.specs.declared.balances.Balances.{Balances}
use Rattle.records.specs.declared.facts.PendingState.{PendingState}
use Rattle.records.specs.declared.facts.PendingState.TheVariants.{Open, Posted, Voided, Expired}
use Rattle.records.specs.Flags.{is_pending}
use Rattle.records.specs.Machine.{Machine, has_id, transfer_with}
use Rattle.records.specs.Due.{due_of, has_come, is_due}
use Rattle.records.specs.Fate.{posts, voids, is_open}
use Rattle.records.specs.Balances.{amount_on, posted_amount}
use Rattle.rows.specs.declared.balance_row.BalanceRow.{BalanceRow}
use Rattle.rows.specs.declared.status_row.StatusRow.{StatusRow}
use Rattle.rows.specs.TypedRows.{TypedRows}
use Rattle.rows.specs.Keyed.{row_with}
use Rattle.rows.specs.Prescribed.{history_rows}
use Rattle.rows.specs.Changes.{with_expired}

-- a transfer's fate, where the test tells which transfers count as past their due time
abbrev pub fate_when : (Transfer → Bool) → List Transfer → Transfer → PendingState
fate_when is_past entries transfer =
    if list_any (posts transfer.id) entries then Posted
    else if list_any (voids transfer.id) entries then Voided
    else if is_past transfer then Expired
    else Open

-- what an entry then adds to pending sums
abbrev pub pending_when : (Transfer → Bool) → List Transfer → Transfer → ℕ
pending_when is_past entries entry =
    if is_pending entry.flags && is_open (fate_when is_past entries entry) then entry.amount else 0

-- an account's sums on one side then
abbrev pub sums_when : (Transfer → Bool) → Side → List Transfer → ℕ → Sums
sums_when is_past side entries account = record {
  pending = sum_by (amount_on side account (pending_when is_past entries)) entries;
  posted = sum_by (amount_on side account posted_amount) entries;
}

-- its balances then
abbrev pub balances_when : (Transfer → Bool) → List Transfer → ℕ → Balances
balances_when is_past entries account = record {
  debits = sums_when is_past Debit entries account;
  credits = sums_when is_past Credit entries account;
}

-- the balance row of an account then
abbrev pub balance_row_when : (Transfer → Bool) → Machine → Account → BalanceRow
balance_row_when is_past m account =
    record { account = account.id; balances = balances_when is_past m.transfers account.id }

-- the status row of a pending transfer then
abbrev pub status_row_when : (Transfer → Bool) → Machine → Transfer → StatusRow
status_row_when is_past m transfer = record {
  transfer = transfer.id;
  state = fate_when is_past m.transfers transfer;
  due = due_of transfer;
}

-- all rows then
unfoldable pub rows_when : (Transfer → Bool) → Machine → TypedRows
rows_when is_past m = record {
  clock = m.clock;
  accounts = m.accounts;
  transfers = m.transfers;
  balances = map (balance_row_when is_past m) m.accounts;
  statuses =
      map (status_row_when is_past m) (filter (λ transfer. is_pending transfer.flags) m.transfers);
  history = history_rows m;
  failed = m.failed;
}

-- due at the clock, or one of the released
abbrev pub is_past_with : ℕ → List ℕ → Transfer → Bool
is_past_with clock released transfer = is_due clock transfer || has_id transfer.id released

-- the machine's rows at its clock, but with these transfers released
abbrev pub rows_released : Machine → List ℕ → TypedRows
rows_released m released = rows_when (is_past_with m.clock released) m

-- whether a transfer is open, and is due at the clock
abbrev pub is_due_row : ℕ → StatusRow → Bool
is_due_row clock row = is_open row.state && has_come row.due clock

-- the open transfers that are due at the clock
abbrev pub due_ids : ℕ → TypedRows → List ℕ
due_ids clock rows = map (λ row. row.transfer) (filter (is_due_row clock) rows.statuses)

-- a transfer is the next one to be released, behind those that are done: its two accounts have
-- these balances, which hold its amount, and without it they are left
pub record IsNextRelease
    (m : Machine) (done : List ℕ) (id : ℕ) (t : Transfer) (debit credit : Balances) : Type 0 where
  pub found : transfer_with id m.transfers ≡ Some t
  pub id_is : t.id ≡ id
  pub debit_found :
      row_with (λ row. row.account) t.debit_account_id (rows_released m done).balances
      ≡ Some (record { account = t.debit_account_id; balances = debit })
  pub credit_found :
      row_with (λ row. row.account) t.credit_account_id (rows_released m done).balances
      ≡ Some (record { account = t.credit_account_id; balances = credit })
  pub debit_holds : t.amount ≤ debit.debits.pending
  pub credit_holds : t.amount ≤ credit.credits.pending
  pub leaves :
      rows_released m (done ++ id ∷ []) ≡ with_expired t debit credit (rows_released m done)
