-- The amount that a transfer moves.
use Rattle.std.specs.Prelude.{ℕ, ◌-◌, ◌==◌, min, Option, Some, None, if◌then◌else◌}
use Rattle.records.specs.declared.balances.Balances.{Balances}
use Rattle.records.specs.declared.transfer.TransferEvent.{TransferEvent}
use Rattle.records.specs.declared.facts.AccountWithBalances.{AccountWithBalances}
use Rattle.records.specs.declared.facts.PendingTransfer.{PendingTransfer}
use Rattle.records.specs.declared.facts.TransferFacts.{TransferFacts}
use Rattle.records.specs.declared.side.Side.{Side}
use Rattle.records.specs.declared.side.Side.TheVariants.{Debit, Credit}
use Rattle.records.specs.Flags.{is_post, is_void, is_post_or_void}
use Rattle.records.specs.Sides.{other_side, sums_on, is_balancing_on}
use Rattle.records.specs.Machine.{max_amount}
use Rattle.records.specs.Balances.{total_of}

-- what a post or void asks for: for a post the greatest number is the whole pending amount
abbrev pub amount_asked : ℕ → TransferEvent → ℕ
amount_asked pending ev =
    if is_post ev.flags then (if ev.amount == max_amount then pending else ev.amount)
    else ev.amount

-- what a post or void moves of a pending amount: a void takes it back whole
abbrev pub amount_ended : ℕ → TransferEvent → ℕ
amount_ended pending ev = if is_void ev.flags then pending else amount_asked pending ev

-- how much more a side takes before it exceeds, with all that is pending, the other's posted sum
abbrev pub room_on : Side → Balances → ℕ
room_on side balances =
    (sums_on (other_side side) balances).posted - total_of (sums_on side balances)

-- an amount, lowered to an account's room on a side if the event has that side's balancing flag
abbrev pub lowered_amount : Side → AccountWithBalances → TransferEvent → ℕ → ℕ
lowered_amount side a ev amount =
    if is_balancing_on side ev.flags then min amount (room_on side a.balances) else amount

-- the event's amount, lowered to the room of the accounts that its balancing flags name
abbrev pub amount_balanced : AccountWithBalances → AccountWithBalances → TransferEvent → ℕ
amount_balanced debit credit ev =
    lowered_amount Credit credit ev (lowered_amount Debit debit ev ev.amount)

-- the same of accounts that may not be there
abbrev pub amount_between :
    Option AccountWithBalances → Option AccountWithBalances → TransferEvent → ℕ
amount_between (Some debit) (Some credit) ev = amount_balanced debit credit ev
amount_between (Some debit) None ev = ev.amount
amount_between None credit ev = ev.amount

-- what a post or void moves of a pending transfer that may not be there
abbrev pub amount_of_pending : Option PendingTransfer → TransferEvent → ℕ
amount_of_pending (Some p) ev = amount_ended p.transfer.amount ev
amount_of_pending None ev = ev.amount

-- the amount that is stored if the event is accepted
abbrev pub actual_amount : TransferFacts → TransferEvent → ℕ
actual_amount f ev =
    if is_post_or_void ev.flags then amount_of_pending f.pending ev
    else amount_between f.debit f.credit ev
