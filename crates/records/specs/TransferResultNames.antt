-- The number and the name that a reply gives to each result of a transfer event.
use Rattle.std.specs.Prelude.{ℕ, List, [], ◌∷◌, codes, get_or}
use Rattle.records.specs.declared.transfer_result.TransferResult.{TransferResult}
use Rattle.records.specs.declared.transfer_result.TransferResult.TheVariants as answer

-- the number
abbrev pub number_of : TransferResult → ℕ
number_of answer.Accepted = 0
number_of answer.LinkedEventChainOpen = 1
number_of answer.LinkedEventFailed = 2
number_of answer.TimestampMustBeZero = 3
number_of answer.ReservedFlag = 4
number_of answer.IdMustNotBeZero = 5
number_of answer.IdMustNotBeIntMax = 6
number_of answer.ExistsWithDifferentFlags = 7
number_of answer.ExistsWithDifferentPendingId = 8
number_of answer.ExistsWithDifferentTimeout = 9
number_of answer.ExistsWithDifferentDebitAccountId = 10
number_of answer.ExistsWithDifferentCreditAccountId = 11
number_of answer.ExistsWithDifferentAmount = 12
number_of answer.ExistsWithDifferentUserData128 = 13
number_of answer.ExistsWithDifferentUserData64 = 14
number_of answer.ExistsWithDifferentUserData32 = 15
number_of answer.ExistsWithDifferentLedger = 16
number_of answer.ExistsWithDifferentCode = 17
number_of answer.Exists = 18
number_of answer.FlagsAreMutuallyExclusive = 19
number_of answer.PendingIdMustNotBeZero = 20
number_of answer.PendingIdMustNotBeIntMax = 21
number_of answer.PendingIdMustBeDifferent = 22
number_of answer.TimeoutReservedForPendingTransfer = 23
number_of answer.PendingTransferNotFound = 24
number_of answer.PendingTransferNotPending = 25
number_of answer.PendingTransferHasDifferentDebitAccountId = 26
number_of answer.PendingTransferHasDifferentCreditAccountId = 27
number_of answer.PendingTransferHasDifferentLedger = 28
number_of answer.PendingTransferHasDifferentCode = 29
number_of answer.ExceedsPendingTransferAmount = 30
number_of answer.PendingTransferHasDifferentAmount = 31
number_of answer.PendingTransferAlreadyPosted = 32
number_of answer.PendingTransferAlreadyVoided = 33
number_of answer.PendingTransferExpired = 34
number_of answer.DebitAccountIdMustNotBeZero = 35
number_of answer.DebitAccountIdMustNotBeIntMax = 36
number_of answer.CreditAccountIdMustNotBeZero = 37
number_of answer.CreditAccountIdMustNotBeIntMax = 38
number_of answer.AccountsMustBeDifferent = 39
number_of answer.PendingIdMustBeZero = 40
number_of answer.LedgerMustNotBeZero = 42
number_of answer.CodeMustNotBeZero = 43
number_of answer.DebitAccountNotFound = 44
number_of answer.CreditAccountNotFound = 45
number_of answer.AccountsMustHaveTheSameLedger = 46
number_of answer.TransferMustHaveTheSameLedgerAsAccounts = 47
number_of answer.OverflowsDebitsPending = 48
number_of answer.OverflowsCreditsPending = 49
number_of answer.OverflowsDebitsPosted = 50
number_of answer.OverflowsCreditsPosted = 51
number_of answer.OverflowsDebits = 52
number_of answer.OverflowsCredits = 53
number_of answer.ExceedsCredits = 55
number_of answer.ExceedsDebits = 56
number_of answer.IdAlreadyFailed = 60

-- the names by number, in ASCII; no result has the number 41, 54, 57, 58 or 59
abbrev pub names : List (List ℕ)
names =
    codes "ok" ∷
    codes "linked_event_chain_open" ∷
    codes "linked_event_failed" ∷
    codes "timestamp_must_be_zero" ∷
    codes "reserved_flag" ∷
    codes "id_must_not_be_zero" ∷
    codes "id_must_not_be_int_max" ∷
    codes "exists_with_different_flags" ∷
    codes "exists_with_different_pending_id" ∷
    codes "exists_with_different_timeout" ∷
    codes "exists_with_different_debit_account_id" ∷
    codes "exists_with_different_credit_account_id" ∷
    codes "exists_with_different_amount" ∷
    codes "exists_with_different_user_data_128" ∷
    codes "exists_with_different_user_data_64" ∷
    codes "exists_with_different_user_data_32" ∷
    codes "exists_with_different_ledger" ∷
    codes "exists_with_different_code" ∷
    codes "exists" ∷
    codes "flags_are_mutually_exclusive" ∷
    codes "pending_id_must_not_be_zero" ∷
    codes "pending_id_must_not_be_int_max" ∷
    codes "pending_id_must_be_different" ∷
    codes "timeout_reserved_for_pending_transfer" ∷
    codes "pending_transfer_not_found" ∷
    codes "pending_transfer_not_pending" ∷
    codes "pending_transfer_has_different_debit_account_id" ∷
    codes "pending_transfer_has_different_credit_account_id" ∷
    codes "pending_transfer_has_different_ledger" ∷
    codes "pending_transfer_has_different_code" ∷
    codes "exceeds_pending_transfer_amount" ∷
    codes "pending_transfer_has_different_amount" ∷
    codes "pending_transfer_already_posted" ∷
    codes "pending_transfer_already_voided" ∷
    codes "pending_transfer_expired" ∷
    codes "debit_account_id_must_not_be_zero" ∷
    codes "debit_account_id_must_not_be_int_max" ∷
    codes "credit_account_id_must_not_be_zero" ∷
    codes "credit_account_id_must_not_be_int_max" ∷
    codes "accounts_must_be_different" ∷
    codes "pending_id_must_be_zero" ∷
    [] ∷
    codes "ledger_must_not_be_zero" ∷
    codes "code_must_not_be_zero" ∷
    codes "debit_account_not_found" ∷
    codes "credit_account_not_found" ∷
    codes "accounts_must_have_the_same_ledger" ∷
    codes "transfer_must_have_the_same_ledger_as_accounts" ∷
    codes "overflows_debits_pending" ∷
    codes "overflows_credits_pending" ∷
    codes "overflows_debits_posted" ∷
    codes "overflows_credits_posted" ∷
    codes "overflows_debits" ∷
    codes "overflows_credits" ∷
    [] ∷
    codes "exceeds_credits" ∷
    codes "exceeds_debits" ∷
    [] ∷
    [] ∷
    [] ∷
    codes "id_already_failed" ∷
    []

-- the name
abbrev pub name_of : TransferResult → List ℕ
name_of answered = get_or names (number_of answered) []
