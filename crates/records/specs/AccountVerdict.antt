-- The results of an account event, in the order in which they are judged (docs/RESULTS.md).
use Rattle.std.specs.Prelude.{Bool, not, ◌==◌, List, [], ◌∷◌, Option, Some, None}
use Rattle.records.specs.declared.account.Account.{Account}
use Rattle.records.specs.declared.account.AccountEvent.{AccountEvent}
use Rattle.records.specs.declared.account_result.AccountResult.{AccountResult}
use Rattle.records.specs.declared.account_result.AccountResult.TheVariants as answer
use Rattle.records.specs.Flags.{has_reserved_account_flag, are_account_flags_exclusive}
use Rattle.records.specs.FirstOf.{first_of, or_else}
use Rattle.records.specs.Machine.{max_amount}

-- results 3 to 6: what the event alone decides
abbrev pub account_event_results : AccountEvent → List (Bool × AccountResult)
account_event_results ev =
    (not (ev.timestamp == 0), answer.TimestampMustBeZero)
    ∷ (has_reserved_account_flag ev.flags, answer.ReservedFlag)
    ∷ (ev.id == 0, answer.IdMustNotBeZero)
    ∷ (ev.id == max_amount, answer.IdMustNotBeIntMax)
    ∷ []

-- results 7 to 12: how the event differs from the account that exists under its id
abbrev pub account_difference_results : Account → AccountEvent → List (Bool × AccountResult)
account_difference_results old ev =
    (not (ev.flags.0 == old.flags.0), answer.ExistsWithDifferentFlags)
    ∷ (not (ev.user_data_128 == old.user_data_128), answer.ExistsWithDifferentUserData128)
    ∷ (not (ev.user_data_64 == old.user_data_64), answer.ExistsWithDifferentUserData64)
    ∷ (not (ev.user_data_32 == old.user_data_32), answer.ExistsWithDifferentUserData32)
    ∷ (not (ev.ledger == old.ledger), answer.ExistsWithDifferentLedger)
    ∷ (not (ev.code == old.code), answer.ExistsWithDifferentCode)
    ∷ []

-- results 14 to 20: what a new account has to meet
abbrev pub new_account_results : AccountEvent → List (Bool × AccountResult)
new_account_results ev =
    (are_account_flags_exclusive ev.flags, answer.FlagsAreMutuallyExclusive)
    ∷ (not (ev.debits_pending == 0), answer.DebitsPendingMustBeZero)
    ∷ (not (ev.debits_posted == 0), answer.DebitsPostedMustBeZero)
    ∷ (not (ev.credits_pending == 0), answer.CreditsPendingMustBeZero)
    ∷ (not (ev.credits_posted == 0), answer.CreditsPostedMustBeZero)
    ∷ (ev.ledger == 0, answer.LedgerMustNotBeZero)
    ∷ (ev.code == 0, answer.CodeMustNotBeZero)
    ∷ []

-- the first field, in the table's order, in which the event differs from the existing account
abbrev pub account_difference : Account → AccountEvent → Option AccountResult
account_difference old ev = first_of (account_difference_results old ev)

-- what follows the event's own results, by whether its id exists
abbrev pub account_id_verdict : Option Account → AccountEvent → Option AccountResult
account_id_verdict (Some old) ev = or_else (account_difference old ev) (Some answer.Exists)
account_id_verdict None ev = first_of (new_account_results ev)

-- the verdict on an event where its id has this account; none is that it is accepted
unfoldable pub account_verdict : Option Account → AccountEvent → Option AccountResult
account_verdict old ev = or_else (first_of (account_event_results ev)) (account_id_verdict old ev)
