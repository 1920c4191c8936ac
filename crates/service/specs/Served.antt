-- What is served to one tenant: what its request is told, and the machine that it leaves.
use Rattle.std.specs.Prelude.{ℕ, List, Option, Some, None, Result, Ok, Err}
use Rattle.records.specs.declared.reply.EventResult.{EventResult}
use Rattle.records.specs.declared.filter.Order.TheVariants.{Oldest}
use Rattle.records.specs.Machine.{Machine}
use Rattle.records.specs.Step as step
use Rattle.records.specs.Step.{Answered, Exhausted, account_rules, transfer_rules}
use Rattle.records.specs.Step.{step_outcome, step_machine}
use Rattle.records.specs.Reads as reads
use Rattle.records.specs.Reads.{AccountAnswer, Found, found_accounts, found_transfers}
use Rattle.records.specs.Reads.{history_answer, history_balances_answer, statement_answer}
use Rattle.records.specs.Queries.{Page, queried_accounts, queried_transfers, open_holds}
use Rattle.records.specs.Queries.{found_holds}
use Rattle.ledger_http.specs.declared.refusal.Refusal.TheVariants.{UnknownKey, NoAccount, NoHistory}
use Rattle.ledger_http.specs.declared.refusal.Refusal.TheVariants.{ClockExhausted}
use Rattle.ledger_http.specs.Question.{Question}
use Rattle.wire.specs.declared.outcome.Entries.{Entries}
use Rattle.wire.specs.declared.outcome.Entries.TheVariants as entries
use Rattle.wire.specs.declared.outcome.Outcome.{Outcome}
use Rattle.wire.specs.declared.outcome.Outcome.TheVariants as told
use Rattle.wire.specs.declared.read.Query.{Query}
use Rattle.wire.specs.declared.read.Query.TheVariants as query
use Rattle.wire.specs.declared.read.Read.{Read}
use Rattle.wire.specs.declared.read.Read.TheVariants as read
use Rattle.wire.specs.declared.request.Request.{Request}
use Rattle.wire.specs.declared.request.Request.TheVariants as asks
use Rattle.wire.specs.Asked.{meaning_in}
use Rattle.parts.specs.Chunks.{statement_chunks}

-- what is told, and what is left
pub record Served (M : Type 0) : Type 0 where
  pub told : Outcome
  pub left : M

-- what a batch is told, whose results are shown so
abbrev pub batch_told :
    {R : Type 0} → (ℕ → List (EventResult R) → Outcome) → step.Outcome R → Outcome
batch_told shows (Answered clock results) = shows clock results
batch_told shows Exhausted = told.Refused ClockExhausted

-- what a question about an account is told, whose answer is shown so
abbrev pub answer_told : {A : Type 0} → (A → Outcome) → AccountAnswer A → Outcome
answer_told shows reads.NoAccount = told.Refused NoAccount
answer_told shows reads.NoHistory = told.Refused NoHistory
answer_told shows (Found answer) = shows answer

-- what a page is told as, whose entries are shown so
abbrev pub page_told : {A : Type 0} → (List A → Entries) → ℕ → Page A → Outcome
page_told shows clock page = told.Page clock page.next (shows page.entries)

-- what a machine tells a query
abbrev pub query_told : Machine → Query → Outcome
query_told m (query.Accounts asked) =
    page_told entries.Accounts m.clock (queried_accounts m asked)
query_told m (query.Transfers asked) =
    page_told entries.Transfers m.clock (queried_transfers m asked)
query_told m (query.OpenPending asked) =
    page_told entries.OpenHolds m.clock (open_holds m asked)

-- what a machine tells a read
abbrev pub read_told : Machine → Read → Outcome
read_told m (read.LookupAccounts ids) = told.Accounts m.clock (found_accounts m ids)
read_told m (read.LookupTransfers ids) = told.Transfers m.clock (found_transfers m ids)
read_told m (read.HistoryTransfers asked) =
    answer_told (told.Transfers m.clock) (history_answer m asked)
read_told m (read.HistoryBalances asked) =
    answer_told (told.Balances m.clock) (history_balances_answer m asked)
read_told m (read.Query asked) = query_told m asked
read_told m (read.LookupPending ids) = told.Holds m.clock (found_holds m ids)
read_told m (read.Statement account) =
    answer_told (λ rows. told.Statement (statement_chunks rows)) (statement_answer m account Oldest)
read_told m (read.Lint events) = told.Linted events

-- what a machine tells a request at a moment
abbrev pub told_by : Machine → ℕ → Request → Outcome
told_by m moment (asks.Accounts events) =
    batch_told told.AccountResults (step_outcome account_rules m events moment)
told_by m moment (asks.Transfers events) =
    batch_told told.TransferResults (step_outcome transfer_rules m events moment)
told_by m moment (asks.Read asked) = read_told m asked

-- the machine after it: batches are steps, and reads change nothing
abbrev pub left_by : Machine → ℕ → Request → Machine
left_by m moment (asks.Accounts events) = step_machine account_rules m events moment
left_by m moment (asks.Transfers events) = step_machine transfer_rules m events moment
left_by m moment (asks.Read asked) = m

-- what a machine tells and what it is after a request, or after one that is refused with this
abbrev pub served_by : Machine → Result Request Outcome → ℕ → Served Machine
served_by m (Ok request) moment =
    record { told = told_by m moment request; left = left_by m moment request }
served_by m (Err outcome) moment = record { told = outcome; left = m }

-- the same of a tenant, if there is one: a tenant that is not there is unknown, whatever it asks
abbrev pub served_to : Option Machine → Result Request Outcome → ℕ → Served (Option Machine)
served_to None meaning moment = record { told = told.Refused UnknownKey; left = None }
served_to (Some m) meaning moment = record {
  told = (served_by m meaning moment).told;
  left = Some (served_by m meaning moment).left;
}

-- what is served to one tenant that asks a question at a moment
abbrev pub served : Option Machine → Question → ℕ → Served (Option Machine)
served tenant question moment = served_to tenant (meaning_in question) moment
