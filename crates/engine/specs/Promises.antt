-- What holds in every valid machine.
use Rattle.std.specs.Prelude.{◌≡◌, ℕ, ◌<◌, ◌≤◌, Bool, true, ◌==◌, ◌||◌}
use Rattle.std.specs.Prelude.{All, List, [], ◌∷◌, Some, None}
use Rattle.std.specs.List.{sum_by, count_by, filter}
use Rattle.records.specs.declared.account.Account.{Account}
use Rattle.records.specs.declared.balances.Balances.{Balances}
use Rattle.records.specs.declared.side.Side.{Side}
use Rattle.records.specs.declared.transfer.Transfer.{Transfer}
use Rattle.records.specs.declared.transfer.TransferEvent.{TransferEvent}
use Rattle.records.specs.Flags.{is_pending}
use Rattle.records.specs.Machine.{Machine, max_amount, transfer_with}
use Rattle.records.specs.Sides.{other_side, account_on, sums_on, limits_side}
use Rattle.records.specs.Due.{due_of}
use Rattle.records.specs.Fate.{posts, voids}
use Rattle.records.specs.Balances.{balances_of, balances_in, total_of}
use Rattle.records.specs.Facts.{facts_of}
use Rattle.records.specs.StoredRecord.{stored_transfer}
use Rattle.records.specs.Step.{transfer_verdict_in}
use Rattle.records.specs.Valid.{IsValid, event_of_transfer, with_account}
use Rattle.engine.specs.After.{balances_released}

-- an account's pending and posted sums are together an amount on each side
pub record SumsFit (m : Machine) (id : ℕ) : Type 0 where
  pub debits : total_of (balances_in m id).debits ≤ max_amount
  pub credits : total_of (balances_in m id).credits ≤ max_amount

-- one of the balances, summed over the accounts of a ledger
abbrev pub ledger_sum : Machine → ℕ → (Balances → ℕ) → ℕ
ledger_sum m ledger balance =
    sum_by (λ account. balance (balances_in m account.id))
    (filter (λ account. account.ledger == ledger) m.accounts)

-- in a ledger what is debited is credited
pub record BooksBalance (m : Machine) (ledger : ℕ) : Type 0 where
  pub posted :
      ledger_sum m ledger (λ b. b.debits.posted) ≡ ledger_sum m ledger (λ b. b.credits.posted)
  pub pending :
      ledger_sum m ledger (λ b. b.debits.pending) ≡ ledger_sum m ledger (λ b. b.credits.pending)

-- an account with a limit on a side is within it, with all that is pending
abbrev pub KeepsLimit : Side → Machine → Account → Type 0
KeepsLimit side m account =
    limits_side side account.flags ≡ true →
    total_of (sums_on side (balances_in m account.id))
    ≤ (sums_on (other_side side) (balances_in m account.id)).posted

-- on both sides
abbrev pub KeepsLimits : Machine → Account → Type 0
KeepsLimits m account = (side : Side) → KeepsLimit side m account

-- whether an entry posts or voids the transfer with this id
abbrev pub ends : ℕ → Transfer → Bool
ends id entry = posts id entry || voids id entry

-- a post or void that came before the due time, if there is one, and moved no more than was pending
pub record EndsInTime (pending entry : Transfer) : Type 0 where
  pub before_due : (due : ℕ) → due_of pending ≡ Some due → entry.at < due
  pub within : entry.amount ≤ pending.amount

-- at most one entry ends the transfer, and does so in time
pub record EndsOnce (entries : List Transfer) (pending : Transfer) : Type 0 where
  pub once : count_by (ends pending.id) entries ≤ 1
  pub in_time : All (λ entry. ends pending.id entry ≡ true → EndsInTime pending entry) entries

-- each pending transfer of the machine is ended so
abbrev pub EndingsHold : Machine → Type 0
EndingsHold m =
    All (λ pending. is_pending pending.flags ≡ true → EndsOnce m.transfers pending) m.transfers

-- ids in ascending order, each once
abbrev pub IsAscending : List ℕ → Type 0
IsAscending [] = Unit {0}
IsAscending (id ∷ ids) = All (λ other. id < other) ids × IsAscending ids

-- an id that failed for good is one that a transfer may have, and none has
pub record IsFailedId (entries : List Transfer) (id : ℕ) : Type 0 where
  pub positive : 0 < id
  pub below_max : id < max_amount
  pub unknown : transfer_with id entries ≡ None

-- the failed ids of a machine
pub record FailedIdsHold (m : Machine) : Type 0 where
  pub ascending : IsAscending m.failed
  pub ids : All (IsFailedId m.transfers) m.failed

-- the entry that the machine keeps for an accepted event
abbrev pub entry_for : Machine → TransferEvent → ℕ → Transfer
entry_for m ev timestamp = stored_transfer (facts_of m ev) ev timestamp m.clock

-- an entry that is sent as it is stored is accepted, and is the same entry
pub record IsSentAsStored (m : Machine) (entry : Transfer) : Type 0 where
  pub accepted : transfer_verdict_in m (event_of_transfer entry) ≡ None
  pub stored : entry_for m (event_of_transfer entry) entry.timestamp ≡ entry

-- one more account leaves the machine valid and each balance as it was
pub record ChangesNoBalance (m : Machine) (account : Account) : Type 0 where
  pub valid : IsValid (with_account m account)
  pub balances : (id : ℕ) → balances_in (with_account m account) id ≡ balances_in m id

-- balances without an open entry are those with it, its amount taken off the pending sums, which
-- hold it
pub record IsReleased (entries rest : List Transfer) (clock : ℕ) (entry : Transfer) : Type 0 where
  pub holds :
      (side : Side) →
      entry.amount ≤ (sums_on side (balances_of entries clock (account_on side entry))).pending
  pub balances :
      (side : Side) →
      balances_of rest clock (account_on side entry)
      ≡ balances_released side (balances_of entries clock (account_on side entry)) entry.amount
