-- The balances of an account: four sums over the list of transfers.
use Rattle.std.specs.Prelude.{ℕ, ◌+◌, List, ◌==◌, ◌&&◌, ◌||◌, if◌then◌else◌}
use Rattle.std.specs.List.{sum_by}
use Rattle.records.specs.declared.transfer.Transfer.{Transfer}
use Rattle.records.specs.declared.balances.Balances.{Balances}
use Rattle.records.specs.declared.balances.Sums.{Sums}
use Rattle.records.specs.declared.side.Side.{Side}
use Rattle.records.specs.declared.side.Side.TheVariants.{Debit, Credit}
use Rattle.records.specs.Flags.{is_pending, is_post, is_single_phase}
use Rattle.records.specs.Machine.{Machine}
use Rattle.records.specs.Sides.{account_on}
use Rattle.records.specs.Fate.{fate_of, is_open}

-- what an entry adds to posted sums: the amount of a single-phase transfer or a post
abbrev pub posted_amount : Transfer → ℕ
posted_amount entry = if is_single_phase entry.flags || is_post entry.flags then entry.amount else 0

-- what an entry adds to pending sums: the amount of a pending transfer that is open
abbrev pub pending_amount : List Transfer → ℕ → Transfer → ℕ
pending_amount entries clock entry =
    if is_pending entry.flags && is_open (fate_of entries clock entry) then entry.amount else 0

-- an amount of an entry that has the account on this side
abbrev pub amount_on : Side → ℕ → (Transfer → ℕ) → Transfer → ℕ
amount_on side account amount_of entry =
    if account_on side entry == account then amount_of entry else 0

-- an account's sums on one side in a list of transfers at a clock
abbrev pub sums_of : Side → List Transfer → ℕ → ℕ → Sums
sums_of side entries clock account = record {
  pending = sum_by (amount_on side account (pending_amount entries clock)) entries;
  posted = sum_by (amount_on side account posted_amount) entries;
}

-- an account's balances in a list of transfers at a clock
abbrev pub balances_of : List Transfer → ℕ → ℕ → Balances
balances_of entries clock account = record {
  debits = sums_of Debit entries clock account;
  credits = sums_of Credit entries clock account;
}

-- an account's balances in a machine, at its clock
abbrev pub balances_in : Machine → ℕ → Balances
balances_in m account = balances_of m.transfers m.clock account

-- what a side comes to, with all that is pending
abbrev pub total_of : Sums → ℕ
total_of sums = sums.pending + sums.posted
