-- What a message means, from its key on.
use Rattle.std.specs.Prelude.{ℕ, ◌≤◌, ◌^◌, List, length, Result, Ok, ok_or}
use Rattle.ledger_http.specs.declared.refusal.Refusal.{Refusal}
use Rattle.ledger_http.specs.declared.refusal.Refusal.TheVariants.{BadField}
use Rattle.ledger_http.specs.declared.route.Route.{Route}
use Rattle.ledger_http.specs.declared.route.Route.TheVariants as route
use Rattle.wire.specs.declared.read.Query.TheVariants as query
use Rattle.wire.specs.declared.read.Read.{Read as ARead}
use Rattle.wire.specs.declared.read.Read.TheVariants.{LookupAccounts, LookupTransfers}
use Rattle.wire.specs.declared.read.Read.TheVariants.{HistoryTransfers, HistoryBalances, Query}
use Rattle.wire.specs.declared.read.Read.TheVariants.{LookupPending, Statement, Lint}
use Rattle.wire.specs.declared.request.Request.{Request}
use Rattle.wire.specs.declared.request.Request.TheVariants.{Accounts, Transfers, Read}
use Rattle.wire.specs.Fields.{number_below}
use Rattle.wire.specs.Body.{and_then, accounts_in, transfers_in, ids_in, filter_in}
use Rattle.wire.specs.Body.{query_in, page_in}

-- the account in the path of a statement
abbrev pub account_in : List ℕ → Result ℕ Refusal
account_in text = ok_or (number_below (2 ^ 128) text) BadField

-- a request for what is read, unless that is refused
abbrev pub request_for : {A : Type 0} → (A → Request) → Result A Refusal → Result Request Refusal
request_for made_of read = and_then read (λ a. Ok (made_of a))

-- the same of a request that changes nothing
abbrev pub read_for : {A : Type 0} → (A → ARead) → Result A Refusal → Result Request Refusal
read_for made_of read = request_for (λ a. Read (made_of a)) read

-- what is asked on a route, by the account in the path and the body
abbrev pub meaning_of : Route → List ℕ → List ℕ → Result Request Refusal
meaning_of route.Accounts account body = request_for Accounts (accounts_in body)
meaning_of route.Transfers account body = request_for Transfers (transfers_in body)
meaning_of route.LookupAccounts account body = read_for LookupAccounts (ids_in body)
meaning_of route.LookupTransfers account body = read_for LookupTransfers (ids_in body)
meaning_of route.HistoryTransfers account body = read_for HistoryTransfers (filter_in body)
meaning_of route.HistoryBalances account body = read_for HistoryBalances (filter_in body)
meaning_of route.QueryAccounts account body =
    read_for (λ asked. Query (query.Accounts asked)) (query_in body)
meaning_of route.QueryTransfers account body =
    read_for (λ asked. Query (query.Transfers asked)) (query_in body)
meaning_of route.LookupPending account body = read_for LookupPending (ids_in body)
meaning_of route.OpenPending account body =
    read_for (λ asked. Query (query.OpenPending asked)) (page_in body)
meaning_of route.Statement account body = read_for Statement (account_in account)
meaning_of route.LintAccounts account body = read_for (λ events. Lint (length events)) (accounts_in body)
meaning_of route.LintTransfers account body = read_for (λ events. Lint (length events)) (transfers_in body)

-- a list has at most 1,000 ids
abbrev pub ReadHasFew : ARead → Type 0
ReadHasFew (LookupAccounts ids) = length ids ≤ 1000
ReadHasFew (LookupTransfers ids) = length ids ≤ 1000
ReadHasFew (HistoryTransfers asked) = Unit {0}
ReadHasFew (HistoryBalances asked) = Unit {0}
ReadHasFew (Query asked) = Unit {0}
ReadHasFew (LookupPending ids) = length ids ≤ 1000
ReadHasFew (Statement account) = Unit {0}
ReadHasFew (Lint events) = Unit {0}

-- a list has at most 1,000 events or ids
abbrev pub HasFew : Request → Type 0
HasFew (Accounts events) = length events ≤ 1000
HasFew (Transfers events) = length events ≤ 1000
HasFew (Read read) = ReadHasFew read
