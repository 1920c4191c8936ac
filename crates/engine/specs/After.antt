-- The balances of the two accounts of a transfer with that transfer.
use Rattle.std.specs.Prelude.{ℕ, ◌+◌, ◌-◌, min, Option, Some, None, if◌then◌else◌}
use Rattle.records.specs.declared.balances.Balances.{Balances}
use Rattle.records.specs.declared.balances.Sums.{Sums}
use Rattle.records.specs.declared.side.Side.{Side}
use Rattle.records.specs.declared.transfer.Transfer.{Transfer}
use Rattle.records.specs.declared.facts.PendingTransfer.{PendingTransfer}
use Rattle.records.specs.Flags.{is_pending, is_post, is_post_or_void}
use Rattle.records.specs.Sides.{sums_on, with_sums}
use Rattle.records.specs.Machine.{max_amount}

-- a sum that stays an amount, whatever the balances are; in a valid machine it never is the cap
abbrev pub capped_sum : ℕ → ℕ → ℕ
capped_sum sum amount = min (sum + amount) max_amount

-- the sums of a side without a pending amount
abbrev pub sums_without : Sums → ℕ → Sums
sums_without sums amount = record sums { pending = sums.pending - amount }

-- a post or void releases the pending transfer's whole amount, and a post adds its own
abbrev pub sums_after_post_or_void : Sums → ℕ → Transfer → Sums
sums_after_post_or_void sums pending t = record {
  pending = sums.pending - pending;
  posted = if is_post t.flags then capped_sum sums.posted t.amount else sums.posted;
}

-- a pending transfer adds to the pending sum, a single-phase one to the posted sum
abbrev pub sums_after_single_or_pending : Sums → Transfer → Sums
sums_after_single_or_pending sums t = record {
  pending = if is_pending t.flags then capped_sum sums.pending t.amount else sums.pending;
  posted = if is_pending t.flags then sums.posted else capped_sum sums.posted t.amount;
}

-- the sums with a transfer, where this is the pending transfer that it names
abbrev pub sums_after : Sums → Option PendingTransfer → Transfer → Sums
sums_after sums (Some p) t =
    if is_post_or_void t.flags then sums_after_post_or_void sums p.transfer.amount t
    else sums_after_single_or_pending sums t
sums_after sums None t = sums_after_single_or_pending sums t

-- the balances of its account on a side
abbrev pub balances_after : Side → Balances → Option PendingTransfer → Transfer → Balances
balances_after side balances pending t =
    with_sums side balances (sums_after (sums_on side balances) pending t)

-- the balances of an account once a pending amount on a side is released
abbrev pub balances_released : Side → Balances → ℕ → Balances
balances_released side balances amount =
    with_sums side balances (sums_without (sums_on side balances) amount)
