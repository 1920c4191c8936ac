-- The results of a transfer event, in the order in which they are judged (docs/RESULTS.md).
use Rattle.std.specs.Prelude.{ℕ, ◌+◌, Bool, true, false, not, ◌&&◌, ◌==◌, nat_lt}
use Rattle.std.specs.Prelude.{List, [], ◌∷◌, Option, Some, None, if◌then◌else◌}
use Rattle.records.specs.declared.transfer.Transfer.{Transfer}
use Rattle.records.specs.declared.transfer.TransferEvent.{TransferEvent}
use Rattle.records.specs.declared.transfer_result.TransferResult.{TransferResult}
use Rattle.records.specs.declared.transfer_result.TransferResult.TheVariants as answer
use Rattle.records.specs.declared.facts.PendingState.{PendingState}
use Rattle.records.specs.declared.facts.PendingState.TheVariants.{Posted, Voided, Expired}
use Rattle.records.specs.declared.facts.ExistingTransfer.{ExistingTransfer}
use Rattle.records.specs.declared.facts.PendingTransfer.{PendingTransfer}
use Rattle.records.specs.declared.facts.AccountWithBalances.{AccountWithBalances}
use Rattle.records.specs.declared.facts.TransferFacts.{TransferFacts}
use Rattle.records.specs.declared.balances.Sums.{Sums}
use Rattle.records.specs.declared.side.Side.{Side}
use Rattle.records.specs.declared.side.Side.TheVariants.{Debit, Credit}
use Rattle.records.specs.Flags.{has_reserved_transfer_flag, are_transfer_flags_exclusive}
use Rattle.records.specs.Flags.{is_pending, is_post, is_void, is_post_or_void, is_balancing}
use Rattle.records.specs.FirstOf.{first_of, or_else}
use Rattle.records.specs.Sides.{other_side, account_on, event_account_on, sums_on, limits_side}
use Rattle.records.specs.Machine.{max_amount}
use Rattle.records.specs.Balances.{total_of}
use Rattle.records.specs.ActualAmount.{amount_asked, amount_balanced}

-- results 3 to 6: what the event alone decides
abbrev pub transfer_event_results : TransferEvent → List (Bool × TransferResult)
transfer_event_results ev =
    (not (ev.timestamp == 0), answer.TimestampMustBeZero)
    ∷ (has_reserved_transfer_flag ev.flags, answer.ReservedFlag)
    ∷ (ev.id == 0, answer.IdMustNotBeZero)
    ∷ (ev.id == max_amount, answer.IdMustNotBeIntMax)
    ∷ []

-- whether a field differs, where a post or void may leave it 0
abbrev pub differs : TransferEvent → ℕ → ℕ → Bool
differs ev given existing =
    not (given == existing) && not (is_post_or_void ev.flags && (given == 0))

-- whether the account on a side differs so
abbrev pub account_differs : Side → Transfer → TransferEvent → Bool
account_differs side old ev = differs ev (event_account_on side ev) (account_on side old)

-- whether the amount differs: a void's 0 is equal, a post's greatest number counts as the pending
-- amount, and the retry of a balancing transfer differs only below the existing amount
abbrev pub amount_differs : Transfer → ℕ → TransferEvent → Bool
amount_differs old pending ev =
    if is_void ev.flags then not (ev.amount == 0) && not (ev.amount == old.amount)
    else if is_post ev.flags then not (amount_asked pending ev == old.amount)
    else if is_balancing ev.flags then nat_lt ev.amount old.amount
    else not (ev.amount == old.amount)

-- results 7 to 12: how the event differs from the transfer that exists under its id
abbrev pub transfer_difference_results :
    Transfer → ℕ → TransferEvent → List (Bool × TransferResult)
transfer_difference_results old pending ev =
    (not (ev.flags.0 == old.flags.0), answer.ExistsWithDifferentFlags)
    ∷ (not (ev.pending_id == old.pending_id), answer.ExistsWithDifferentPendingId)
    ∷ (not (ev.timeout == old.timeout), answer.ExistsWithDifferentTimeout)
    ∷ (account_differs Debit old ev, answer.ExistsWithDifferentDebitAccountId)
    ∷ (account_differs Credit old ev, answer.ExistsWithDifferentCreditAccountId)
    ∷ (amount_differs old pending ev, answer.ExistsWithDifferentAmount)
    ∷ []

-- results 13 to 17: how it differs in user data, ledger and code
abbrev pub transfer_detail_results : Transfer → TransferEvent → List (Bool × TransferResult)
transfer_detail_results old ev =
    (differs ev ev.user_data_128 old.user_data_128, answer.ExistsWithDifferentUserData128)
    ∷ (differs ev ev.user_data_64 old.user_data_64, answer.ExistsWithDifferentUserData64)
    ∷ (differs ev ev.user_data_32 old.user_data_32, answer.ExistsWithDifferentUserData32)
    ∷ (differs ev ev.ledger old.ledger, answer.ExistsWithDifferentLedger)
    ∷ (differs ev ev.code old.code, answer.ExistsWithDifferentCode)
    ∷ []

-- the first field, in the table's order, in which the event differs from the existing transfer,
-- which comes with the amount of the pending transfer that it names
abbrev pub transfer_difference : Transfer → ℕ → TransferEvent → Option TransferResult
transfer_difference old pending ev =
    or_else (first_of (transfer_difference_results old pending ev))
    (first_of (transfer_detail_results old ev))

-- results 60 and 19: any transfer whose id does not exist
abbrev pub new_transfer_results : TransferFacts → TransferEvent → List (Bool × TransferResult)
new_transfer_results f ev =
    (f.failed, answer.IdAlreadyFailed)
    ∷ (are_transfer_flags_exclusive ev.flags, answer.FlagsAreMutuallyExclusive)
    ∷ []

-- results 20 to 23: how a post or void names the pending transfer
abbrev pub post_or_void_results : TransferEvent → List (Bool × TransferResult)
post_or_void_results ev =
    (ev.pending_id == 0, answer.PendingIdMustNotBeZero)
    ∷ (ev.pending_id == max_amount, answer.PendingIdMustNotBeIntMax)
    ∷ (ev.pending_id == ev.id, answer.PendingIdMustBeDifferent)
    ∷ (not (ev.timeout == 0), answer.TimeoutReservedForPendingTransfer)
    ∷ []

-- whether a field of a post or void is given, not left 0, and not that of the pending transfer
abbrev pub is_given_otherwise : ℕ → ℕ → Bool
is_given_otherwise given pending = not (given == 0) && not (given == pending)

-- whether the account on a side is given so
abbrev pub has_other_account : Side → PendingTransfer → TransferEvent → Bool
has_other_account side p ev =
    is_given_otherwise (event_account_on side ev) (account_on side p.transfer)

-- whether a post or void asks for more than the pending amount
abbrev pub exceeds_pending : ℕ → TransferEvent → Bool
exceeds_pending pending ev = nat_lt pending (amount_asked pending ev)

-- whether a void gives back less than the whole pending amount
abbrev pub is_partial_void : TransferEvent → ℕ → Bool
is_partial_void ev pending = is_void ev.flags && not (ev.amount == 0) && nat_lt ev.amount pending

-- whether the pending transfer was posted
abbrev pub is_posted : Option PendingState → Bool
is_posted (Some Posted) = true
is_posted other = false

-- whether it was voided
abbrev pub is_voided : Option PendingState → Bool
is_voided (Some Voided) = true
is_voided other = false

-- whether it expired
abbrev pub is_expired : Option PendingState → Bool
is_expired (Some Expired) = true
is_expired other = false

-- results 25 to 34: how a post or void fits the pending transfer
abbrev pub pending_transfer_results :
    PendingTransfer → TransferEvent → List (Bool × TransferResult)
pending_transfer_results p ev =
    (not (is_pending p.transfer.flags), answer.PendingTransferNotPending)
    ∷ (has_other_account Debit p ev, answer.PendingTransferHasDifferentDebitAccountId)
    ∷ (has_other_account Credit p ev, answer.PendingTransferHasDifferentCreditAccountId)
    ∷ (is_given_otherwise ev.ledger p.transfer.ledger, answer.PendingTransferHasDifferentLedger)
    ∷ (is_given_otherwise ev.code p.transfer.code, answer.PendingTransferHasDifferentCode)
    ∷ (exceeds_pending p.transfer.amount ev, answer.ExceedsPendingTransferAmount)
    ∷ (is_partial_void ev p.transfer.amount, answer.PendingTransferHasDifferentAmount)
    ∷ (is_posted p.state, answer.PendingTransferAlreadyPosted)
    ∷ (is_voided p.state, answer.PendingTransferAlreadyVoided)
    ∷ (is_expired p.state, answer.PendingTransferExpired)
    ∷ []

-- whether a timeout is given to a transfer that is not pending
abbrev pub has_idle_timeout : TransferEvent → Bool
has_idle_timeout ev = not (ev.timeout == 0) && not (is_pending ev.flags)

-- results 35 to 43: what the fields of a single-phase or pending transfer have to meet
abbrev pub single_or_pending_results : TransferEvent → List (Bool × TransferResult)
single_or_pending_results ev =
    (ev.debit_account_id == 0, answer.DebitAccountIdMustNotBeZero)
    ∷ (ev.debit_account_id == max_amount, answer.DebitAccountIdMustNotBeIntMax)
    ∷ (ev.credit_account_id == 0, answer.CreditAccountIdMustNotBeZero)
    ∷ (ev.credit_account_id == max_amount, answer.CreditAccountIdMustNotBeIntMax)
    ∷ (ev.debit_account_id == ev.credit_account_id, answer.AccountsMustBeDifferent)
    ∷ (not (ev.pending_id == 0), answer.PendingIdMustBeZero)
    ∷ (has_idle_timeout ev, answer.TimeoutReservedForPendingTransfer)
    ∷ (ev.ledger == 0, answer.LedgerMustNotBeZero)
    ∷ (ev.code == 0, answer.CodeMustNotBeZero)
    ∷ []

-- results 46 and 47: the ledger of its accounts
abbrev pub ledger_results :
    AccountWithBalances → AccountWithBalances → TransferEvent → List (Bool × TransferResult)
ledger_results debit credit ev =
    (not (debit.account.ledger == credit.account.ledger), answer.AccountsMustHaveTheSameLedger)
    ∷ (not (ev.ledger == debit.account.ledger), answer.TransferMustHaveTheSameLedgerAsAccounts)
    ∷ []

-- whether a sum and an amount together exceed 128 bits
abbrev pub overflows : ℕ → ℕ → Bool
overflows sum amount = nat_lt max_amount (sum + amount)

-- whether a pending transfer takes a pending sum so far
abbrev pub overflows_pending : Sums → ℕ → TransferEvent → Bool
overflows_pending sums amount ev = is_pending ev.flags && overflows sums.pending amount

-- results 48 to 53: sums that exceed 128 bits, with an amount that is lowered already
abbrev pub overflow_results :
    AccountWithBalances → AccountWithBalances → ℕ → TransferEvent → List (Bool × TransferResult)
overflow_results debit credit amount ev =
    (overflows_pending debit.balances.debits amount ev, answer.OverflowsDebitsPending)
    ∷ (overflows_pending credit.balances.credits amount ev, answer.OverflowsCreditsPending)
    ∷ (overflows debit.balances.debits.posted amount, answer.OverflowsDebitsPosted)
    ∷ (overflows credit.balances.credits.posted amount, answer.OverflowsCreditsPosted)
    ∷ (overflows (total_of debit.balances.debits) amount, answer.OverflowsDebits)
    ∷ (overflows (total_of credit.balances.credits) amount, answer.OverflowsCredits)
    ∷ []

-- whether an amount more on a side takes an account past its limit
abbrev pub exceeds_limit : Side → AccountWithBalances → ℕ → Bool
exceeds_limit side a amount =
    limits_side side a.account.flags
    && nat_lt (sums_on (other_side side) a.balances).posted
    (total_of (sums_on side a.balances) + amount)

-- results 55 and 56: the limits of its accounts
abbrev pub limit_results :
    AccountWithBalances → AccountWithBalances → ℕ → List (Bool × TransferResult)
limit_results debit credit amount =
    (exceeds_limit Debit debit amount, answer.ExceedsCredits)
    ∷ (exceeds_limit Credit credit amount, answer.ExceedsDebits)
    ∷ []

-- whether there is room for an amount on both accounts: 48 to 56
abbrev pub room_verdict :
    AccountWithBalances → AccountWithBalances → ℕ → TransferEvent → Option TransferResult
room_verdict debit credit amount ev =
    or_else (first_of (overflow_results debit credit amount ev))
    (first_of (limit_results debit credit amount))

-- results 44 and 45: an account that is not there; else what follows, of the amount after balancing
abbrev pub accounts_verdict :
    Option AccountWithBalances → Option AccountWithBalances → TransferEvent → Option TransferResult
accounts_verdict None credit ev = Some answer.DebitAccountNotFound
accounts_verdict (Some debit) None ev = Some answer.CreditAccountNotFound
accounts_verdict (Some debit) (Some credit) ev =
    or_else (first_of (ledger_results debit credit ev))
    (room_verdict debit credit (amount_balanced debit credit ev) ev)

-- result 24: a pending transfer that is not there; else what follows
abbrev pub pending_transfer_verdict :
    Option PendingTransfer → TransferEvent → Option TransferResult
pending_transfer_verdict None ev = Some answer.PendingTransferNotFound
pending_transfer_verdict (Some p) ev = first_of (pending_transfer_results p ev)

-- a post or void: 20 to 34
abbrev pub post_or_void_verdict : TransferFacts → TransferEvent → Option TransferResult
post_or_void_verdict f ev =
    or_else (first_of (post_or_void_results ev)) (pending_transfer_verdict f.pending ev)

-- a single-phase or pending transfer: 35 to 56
abbrev pub single_or_pending_verdict : TransferFacts → TransferEvent → Option TransferResult
single_or_pending_verdict f ev =
    or_else (first_of (single_or_pending_results ev)) (accounts_verdict f.debit f.credit ev)

-- an event whose id does not exist: 60, 19 to 56
abbrev pub new_transfer_verdict : TransferFacts → TransferEvent → Option TransferResult
new_transfer_verdict f ev =
    or_else (first_of (new_transfer_results f ev))
    (if is_post_or_void ev.flags then post_or_void_verdict f ev
    else single_or_pending_verdict f ev)

-- what follows the event's own results, by whether its id exists
abbrev pub transfer_id_verdict :
    Option ExistingTransfer → TransferFacts → TransferEvent → Option TransferResult
transfer_id_verdict (Some old) f ev =
    or_else (transfer_difference old.transfer old.pending_amount ev) (Some answer.Exists)
transfer_id_verdict None f ev = new_transfer_verdict f ev

-- the verdict on an event that meets these facts; none is that it is accepted
unfoldable pub transfer_verdict : TransferFacts → TransferEvent → Option TransferResult
transfer_verdict f ev =
    or_else (first_of (transfer_event_results ev)) (transfer_id_verdict f.existing f ev)

-- results 24, 44, 45, 55 and 56: whether the id of an event that failed so stays failed
abbrev pub fails_for_good : TransferResult → Bool
fails_for_good answer.PendingTransferNotFound = true
fails_for_good answer.DebitAccountNotFound = true
fails_for_good answer.CreditAccountNotFound = true
fails_for_good answer.ExceedsCredits = true
fails_for_good answer.ExceedsDebits = true
fails_for_good other = false
