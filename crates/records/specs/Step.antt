-- One batch: what it answers, and the machine after it.
use Rattle.std.specs.Prelude.{◌≡◌, ℕ, ◌+◌, ◌-◌, ◌^◌, nat_lt, max}
use Rattle.std.specs.Prelude.{List, [], ◌∷◌, ◌++◌, length, Option, Some, None, if◌then◌else◌}
use Rattle.records.specs.declared.account.AccountEvent.{AccountEvent}
use Rattle.records.specs.declared.account_result.AccountResult.{AccountResult}
use Rattle.records.specs.declared.account_result.AccountResult.TheVariants as account_answer
use Rattle.records.specs.declared.transfer.TransferEvent.{TransferEvent}
use Rattle.records.specs.declared.transfer_result.TransferResult.{TransferResult}
use Rattle.records.specs.declared.transfer_result.TransferResult.TheVariants as transfer_answer
use Rattle.records.specs.declared.reply.EventResult.{EventResult}
use Rattle.records.specs.declared.reply.BatchReply.{BatchReply}
use Rattle.records.specs.declared.reply.BatchReply.TheVariants.{Done, ClockExhausted}
use Rattle.records.specs.Flags.{is_account_linked, is_transfer_linked}
use Rattle.records.specs.Machine.{Machine, account_with}
use Rattle.records.specs.Facts.{facts_of}
use Rattle.records.specs.AccountVerdict.{account_verdict}
use Rattle.records.specs.TransferVerdict.{transfer_verdict, fails_for_good}
use Rattle.records.specs.StoredRecord.{stored_account, stored_transfer}
use Rattle.records.specs.Chains.{Rules, chains_of, chains_results, after_chains}

-- the verdict on an account event
unfoldable pub account_verdict_in : Machine → AccountEvent → Option AccountResult
account_verdict_in m ev = account_verdict (account_with ev.id m.accounts) ev

-- the machine with the account of an accepted event, opened at this timestamp
unfoldable pub after_account : Machine → AccountEvent → ℕ → Machine
after_account m ev timestamp =
    record m { accounts = m.accounts ++ stored_account ev timestamp ∷ [] }

-- the verdict on a transfer event
unfoldable pub transfer_verdict_in : Machine → TransferEvent → Option TransferResult
transfer_verdict_in m ev = transfer_verdict (facts_of m ev) ev

-- the machine with the record of an accepted event, at this timestamp
unfoldable pub after_transfer : Machine → TransferEvent → ℕ → Machine
after_transfer m ev timestamp =
    let entry = stored_transfer (facts_of m ev) ev timestamp m.clock in
    record m { transfers = m.transfers ++ entry ∷ [] }

-- the id that stays failed where a transfer event fails with this result
abbrev pub failed_transfer_id : TransferEvent → TransferResult → Option ℕ
failed_transfer_id ev result = if fails_for_good result then Some ev.id else None

-- how batches of account events are judged; none of them leaves a failed id
abbrev pub account_rules : Rules AccountEvent AccountResult
account_rules = record {
  linked = λ ev. is_account_linked ev.flags;
  verdict = account_verdict_in;
  after = after_account;
  failed_id = λ ev result. None;
  accepted = account_answer.Accepted;
  chain_open = account_answer.LinkedEventChainOpen;
  chain_failed = account_answer.LinkedEventFailed;
}

-- how batches of transfer events are judged
abbrev pub transfer_rules : Rules TransferEvent TransferResult
transfer_rules = record {
  linked = λ ev. is_transfer_linked ev.flags;
  verdict = transfer_verdict_in;
  after = after_transfer;
  failed_id = failed_transfer_id;
  accepted = transfer_answer.Accepted;
  chain_open = transfer_answer.LinkedEventChainOpen;
  chain_failed = transfer_answer.LinkedEventFailed;
}

-- the latest clock: 2^62, so that every due time fits 64 bits
abbrev pub max_clock : ℕ
max_clock = 2 ^ 62

-- the clock after a batch of n events at a moment: it never turns back, and advances one nanosecond
-- per event
abbrev pub clock_after : Machine → ℕ → ℕ → ℕ
clock_after m n moment = max moment m.clock + n

-- the machine at a later clock
abbrev pub at_clock : Machine → ℕ → Machine
at_clock m clock = record m { clock = clock }

-- what a batch is told: the clock after it and the results, or that the clock has come to its end
pub data Outcome (R : Type 0) : Type 0 where
  Answered : ℕ → List (EventResult R) → Outcome R
  Exhausted : Outcome R

-- results in the order of their events, the first at this timestamp
abbrev pub with_timestamps : {R : Type 0} → ℕ → List R → List (EventResult R)
with_timestamps timestamp [] = []
with_timestamps timestamp (result ∷ results) =
    record { result = result; timestamp = timestamp } ∷ with_timestamps (timestamp + 1) results

-- the timestamp of the first of n events: they take the timestamps up to the clock after them
abbrev pub first_timestamp : ℕ → ℕ → ℕ
first_timestamp clock n = clock - n + 1

-- what a batch at a moment is told: all of it is judged at the clock after it
unfoldable pub step_outcome : {E R : Type 0} → Rules E R → Machine → List E → ℕ → Outcome R
step_outcome rules m batch moment =
    let clock = clock_after m (length batch) moment in
    let first = first_timestamp clock (length batch) in
    let results = chains_results rules (at_clock m clock) (chains_of rules.linked batch) first in
    if nat_lt max_clock clock then Exhausted else Answered clock (with_timestamps first results)

-- the machine after it
unfoldable pub step_machine : {E R : Type 0} → Rules E R → Machine → List E → ℕ → Machine
step_machine rules m batch moment =
    let clock = clock_after m (length batch) moment in
    let first = first_timestamp clock (length batch) in
    if nat_lt max_clock clock then m
    else after_chains rules (at_clock m clock) (chains_of rules.linked batch) first

-- the reply of a batch is what the machine's step tells
abbrev pub IsReply : {R : Type 0} → BatchReply R → Outcome R → Type 0
IsReply (Done clock results) (Answered told stamps) = (clock ≡ told) × (results.items ≡ stamps)
IsReply (Done clock results) Exhausted = ⊥
IsReply ClockExhausted (Answered told stamps) = ⊥
IsReply ClockExhausted Exhausted = Unit {0}
