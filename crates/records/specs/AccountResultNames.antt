-- The number and the name that a reply gives to each result of an account event.
use Rattle.std.specs.Prelude.{ℕ, List, [], ◌∷◌, codes, get_or}
use Rattle.records.specs.declared.account_result.AccountResult.{AccountResult}
use Rattle.records.specs.declared.account_result.AccountResult.TheVariants as answer

-- the number
abbrev pub number_of : AccountResult → ℕ
number_of answer.Accepted = 0
number_of answer.LinkedEventChainOpen = 1
number_of answer.LinkedEventFailed = 2
number_of answer.TimestampMustBeZero = 3
number_of answer.ReservedFlag = 4
number_of answer.IdMustNotBeZero = 5
number_of answer.IdMustNotBeIntMax = 6
number_of answer.ExistsWithDifferentFlags = 7
number_of answer.ExistsWithDifferentUserData128 = 8
number_of answer.ExistsWithDifferentUserData64 = 9
number_of answer.ExistsWithDifferentUserData32 = 10
number_of answer.ExistsWithDifferentLedger = 11
number_of answer.ExistsWithDifferentCode = 12
number_of answer.Exists = 13
number_of answer.FlagsAreMutuallyExclusive = 14
number_of answer.DebitsPendingMustBeZero = 15
number_of answer.DebitsPostedMustBeZero = 16
number_of answer.CreditsPendingMustBeZero = 17
number_of answer.CreditsPostedMustBeZero = 18
number_of answer.LedgerMustNotBeZero = 19
number_of answer.CodeMustNotBeZero = 20

-- the names by number, in ASCII
abbrev pub names : List (List ℕ)
names =
    codes "ok" ∷
    codes "linked_event_chain_open" ∷
    codes "linked_event_failed" ∷
    codes "timestamp_must_be_zero" ∷
    codes "reserved_flag" ∷
    codes "id_must_not_be_zero" ∷
    codes "id_must_not_be_int_max" ∷
    codes "exists_with_different_flags" ∷
    codes "exists_with_different_user_data_128" ∷
    codes "exists_with_different_user_data_64" ∷
    codes "exists_with_different_user_data_32" ∷
    codes "exists_with_different_ledger" ∷
    codes "exists_with_different_code" ∷
    codes "exists" ∷
    codes "flags_are_mutually_exclusive" ∷
    codes "debits_pending_must_be_zero" ∷
    codes "debits_posted_must_be_zero" ∷
    codes "credits_pending_must_be_zero" ∷
    codes "credits_posted_must_be_zero" ∷
    codes "ledger_must_not_be_zero" ∷
    codes "code_must_not_be_zero" ∷
    []

-- the name
abbrev pub name_of : AccountResult → List ℕ
name_of answered = get_or names (number_of answered) []
