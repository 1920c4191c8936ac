-- The sums up to each entry of a list.
use Rattle.std.specs.Prelude.{◌≡◌, ℕ, ◌+◌, ◌<◌, ◌≤◌, List, length, take, slice_index_or}
use Rattle.records.specs.declared.transfer.Transfer.{Transfer}
use Rattle.records.specs.Balances.{balances_of, total_of}
use Rattle.records.specs.Machine.{max_amount}

-- an account's sums in these entries are amounts, at this clock
pub record Fits (entries : List Transfer) (clock account : ℕ) : Type 0 where
  pub debits : total_of (balances_of entries clock account).debits ≤ max_amount
  pub credits : total_of (balances_of entries clock account).credits ≤ max_amount

-- so are those up to each entry, at the clock of the entry's batch
abbrev pub PrefixesFit : List Transfer → ℕ → Type 0
PrefixesFit entries account =
    (place : ℕ) (entry : Transfer) → place < length entries →
    entry ≡ slice_index_or entries place entry →
    Fits (take (place + 1) entries) entry.at account
