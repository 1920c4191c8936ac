-- The two sides of double entry: each transfer debits one account and credits another.
use Rattle.std.specs.Prelude.{ℕ, Bool}
use Rattle.records.specs.declared.account_flags.AccountFlags.{AccountFlags}
use Rattle.records.specs.declared.transfer.Transfer.{Transfer}
use Rattle.records.specs.declared.transfer.TransferEvent.{TransferEvent}
use Rattle.records.specs.declared.transfer_flags.TransferFlags.{TransferFlags}
use Rattle.records.specs.declared.balances.Balances.{Balances}
use Rattle.records.specs.declared.balances.Sums.{Sums}
use Rattle.records.specs.declared.side.Side.{Side}
use Rattle.records.specs.declared.side.Side.TheVariants.{Debit, Credit}
use Rattle.records.specs.Flags.{limits_debits, limits_credits}
use Rattle.records.specs.Flags.{is_balancing_debit, is_balancing_credit}

-- the other of the two
abbrev pub other_side : Side → Side
other_side Debit = Credit
other_side Credit = Debit

-- the account that a transfer has on a side
abbrev pub account_on : Side → Transfer → ℕ
account_on Debit transfer = transfer.debit_account_id
account_on Credit transfer = transfer.credit_account_id

-- the account that an event has on a side
abbrev pub event_account_on : Side → TransferEvent → ℕ
event_account_on Debit ev = ev.debit_account_id
event_account_on Credit ev = ev.credit_account_id

-- the sums of one side
abbrev pub sums_on : Side → Balances → Sums
sums_on Debit balances = balances.debits
sums_on Credit balances = balances.credits

-- balances with other sums on one side
abbrev pub with_sums : Side → Balances → Sums → Balances
with_sums Debit balances sums = record balances { debits = sums }
with_sums Credit balances sums = record balances { credits = sums }

-- whether an account's sums on a side are limited by the posted sum of the other
abbrev pub limits_side : Side → AccountFlags → Bool
limits_side Debit flags = limits_debits flags
limits_side Credit flags = limits_credits flags

-- whether a transfer's amount is lowered to the room on a side
abbrev pub is_balancing_on : Side → TransferFlags → Bool
is_balancing_on Debit flags = is_balancing_debit flags
is_balancing_on Credit flags = is_balancing_credit flags
