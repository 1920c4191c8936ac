-- What a decision says of the facts that it was made on.
use Rattle.std.specs.Prelude.{◌≡◌, ℕ, Option, Some, None}
use Rattle.records.specs.declared.account.Account.{Account}
use Rattle.records.specs.declared.account.AccountEvent.{AccountEvent}
use Rattle.records.specs.declared.transfer.TransferEvent.{TransferEvent}
use Rattle.records.specs.declared.facts.AccountWithBalances.{AccountWithBalances}
use Rattle.records.specs.declared.facts.TransferFacts.{TransferFacts}
use Rattle.records.specs.declared.accepted.Accepted.{Accepted}
use Rattle.records.specs.AccountVerdict.{account_verdict}
use Rattle.records.specs.TransferVerdict.{transfer_verdict}
use Rattle.records.specs.StoredRecord.{stored_account, stored_transfer}
use Rattle.records.specs.Accepted.{ending_of}
use Rattle.records.specs.declared.side.Side.{Side}
use Rattle.records.specs.declared.side.Side.TheVariants.{Debit, Credit}
use Rattle.records.specs.Facts.{account_of_facts}
use Rattle.engine.specs.After.{balances_after}
use Rattle.records.specs.declared.balances.Balances.{Balances}
use Rattle.engine.specs.declared.decision.AccountDecision.{AccountDecision}
use Rattle.engine.specs.declared.decision.AccountDecision.TheVariants as for_account
use Rattle.engine.specs.declared.decision.Decision.{Decision}
use Rattle.engine.specs.declared.decision.Decision.TheVariants as for_transfer

-- a refusal is the verdict; an accepted account is the event's, opened at this timestamp
abbrev pub IsAccountDecision : Option Account → AccountEvent → ℕ → AccountDecision → Type 0
IsAccountDecision old ev timestamp (for_account.Refuse result) =
    account_verdict old ev ≡ Some result
IsAccountDecision old ev timestamp (for_account.Accept account) =
    (account_verdict old ev ≡ None) × (account ≡ stored_account ev timestamp)

-- a refusal is the verdict; an accepted transfer is kept as the record of the event, and ends what
-- that record ends
abbrev pub IsDecision : TransferFacts → TransferEvent → ℕ → ℕ → Decision → Type 0
IsDecision f ev timestamp clock (for_transfer.Refuse result) = transfer_verdict f ev ≡ Some result
IsDecision f ev timestamp clock (for_transfer.Accept accepted) =
    (transfer_verdict f ev ≡ None)
    × (accepted.stored ≡ stored_transfer f ev timestamp clock)
    × (accepted.ends ≡ ending_of accepted.stored)

-- a fact of the account that is accepted, if one is
abbrev pub IfAccountAccepted : AccountDecision → (Account → Type 0) → Type 0
IfAccountAccepted (for_account.Refuse result) P = Unit {0}
IfAccountAccepted (for_account.Accept account) P = P account

-- a fact of what is told of the transfer that is accepted, if one is
abbrev pub IfAccepted : Decision → (Accepted → Type 0) → Type 0
IfAccepted (for_transfer.Refuse result) P = Unit {0}
IfAccepted (for_transfer.Accept accepted) P = P accepted

-- what is told of the balances of the account on a side
abbrev pub told_after : Side → Accepted → Balances
told_after Debit a = a.debit_after
told_after Credit a = a.credit_after

-- it follows from the balances that the facts have, if the account is among them
abbrev pub IsAfter : Side → TransferFacts → Accepted → Type 0
IsAfter side f a =
    (found : AccountWithBalances) →
    account_of_facts side f ≡ Some found →
    told_after side a ≡ balances_after side found.balances f.pending a.stored
