-- How each read is answered, and the clock that its reply tells.
use Rattle.std.proofs.Common.{◌≡◌, ℕ, List, Some, refl}
use Rattle.records.specs.declared.balances.BalanceAt.{BalanceAt}
use Rattle.records.specs.declared.facts.AccountWithBalances.{AccountWithBalances}
use Rattle.records.specs.declared.filter.AccountFilter.{AccountFilter}
use Rattle.records.specs.declared.filter.Order.TheVariants.{Oldest}
use Rattle.records.specs.declared.hold.Hold.{Hold}
use Rattle.records.specs.declared.query.PageFilter.{PageFilter}
use Rattle.records.specs.declared.query.QueryFilter.{QueryFilter}
use Rattle.records.specs.declared.transfer.Transfer.{Transfer}
use Rattle.records.specs.Machine.{Machine}
use Rattle.records.specs.Queries as query
use Rattle.records.specs.Queries.{Page, found_holds, queried_accounts, queried_transfers}
use Rattle.records.specs.Reads as reads
use Rattle.records.specs.Reads.{AccountAnswer, Found, found_accounts, found_transfers}
use Rattle.records.specs.Reads.{history_answer, history_balances_answer, statement_answer}
use Rattle.chain.specs.declared.reads.Listed.{Listed}
use Rattle.chain.specs.declared.reads.QueryPage.{QueryPage}
use Rattle.chain.specs.LedgerReads.{seen_of_list, seen_of_page}
use Rattle.wire.specs.declared.outcome.Entries.{Entries}
use Rattle.wire.specs.declared.outcome.Entries.TheVariants as entries
use Rattle.wire.specs.declared.outcome.Outcome.{Outcome}
use Rattle.wire.specs.declared.outcome.Outcome.TheVariants as told
use Rattle.wire.specs.declared.read.Query.{Query}
use Rattle.wire.specs.declared.read.Query.TheVariants as asked
use Rattle.wire.specs.declared.read.Read.{Read}
use Rattle.wire.specs.declared.read.Read.TheVariants as read
use Rattle.parts.specs.Chunks.{statement_chunks}
use Rattle.service.specs.Following.{clock_in}
use Rattle.service.specs.Served.{answer_told, page_told, query_told, read_told}
use Rattle.service.proofs.ShownReads.{Reading}

-- by a list
abbrev listed :
    {A : Type 0} (wanted : Read) (answers : Machine → AccountAnswer (List A))
    (shows : ℕ → List A → Outcome) →
    ((m : Machine) → read_told m wanted ≡ answer_told (shows m.clock) (answers m)) →
    Reading (List A) (Listed A)
listed wanted answers shows tells = record {
  read = wanted;
  answers = answers;
  shows = shows;
  sees = seen_of_list;
  tells = tells;
}

-- by a page
abbrev paged :
    {A : Type 0} (asked : Query) (page : Machine → Page A) (shows : List A → Entries) →
    ((m : Machine) → query_told m asked ≡ page_told shows m.clock (page m)) →
    Reading (Page A) (QueryPage A)
paged asked page shows tells = record {
  read = read.Query asked;
  answers = λ m. Found (page m);
  shows = page_told shows;
  sees = seen_of_page;
  tells = tells;
}

abbrev pub accounts_by_id : List ℕ → Reading (List AccountWithBalances) (Listed AccountWithBalances)
accounts_by_id ids =
    listed (read.LookupAccounts ids) (λ m. Found (found_accounts m ids)) told.Accounts (λ m. refl)

abbrev pub transfers_by_id : List ℕ → Reading (List Transfer) (Listed Transfer)
transfers_by_id ids =
    listed (read.LookupTransfers ids) (λ m. Found (found_transfers m ids)) told.Transfers (λ m. refl)

abbrev pub holds_by_id : List ℕ → Reading (List Hold) (Listed Hold)
holds_by_id ids =
    listed (read.LookupPending ids) (λ m. Found (found_holds m ids)) told.Holds (λ m. refl)

abbrev pub transfers_of : AccountFilter → Reading (List Transfer) (Listed Transfer)
transfers_of asked =
    listed (read.HistoryTransfers asked) (λ m. history_answer m asked) told.Transfers (λ m. refl)

abbrev pub balances_of : AccountFilter → Reading (List BalanceAt) (Listed BalanceAt)
balances_of asked =
    listed (read.HistoryBalances asked) (λ m. history_balances_answer m asked) told.Balances
    (λ m. refl)

abbrev pub page_of_accounts : QueryFilter → Reading (Page AccountWithBalances) (QueryPage AccountWithBalances)
page_of_accounts filter =
    paged (asked.Accounts filter) (λ m. queried_accounts m filter) entries.Accounts (λ m. refl)

abbrev pub page_of_transfers : QueryFilter → Reading (Page Transfer) (QueryPage Transfer)
page_of_transfers filter =
    paged (asked.Transfers filter) (λ m. queried_transfers m filter) entries.Transfers (λ m. refl)

abbrev pub page_of_holds : PageFilter → Reading (Page Hold) (QueryPage Hold)
page_of_holds filter =
    paged (asked.OpenPending filter) (λ m. query.open_holds m filter) entries.OpenHolds (λ m. refl)

-- a reply tells this clock, if any
abbrev pub IsClockOf : ℕ → Outcome → Type 0
IsClockOf now reply = (clock : ℕ) → clock_in reply ≡ Some clock → now ≡ clock

query_clock : (m : Machine) (query : Query) → IsClockOf m.clock (query_told m query)
query_clock m (asked.Accounts filter) clock is = cc
query_clock m (asked.Transfers filter) clock is = cc
query_clock m (asked.OpenPending filter) clock is = cc

answer_clock :
    {A : Type 0} (shows : A → Outcome) (now : ℕ) → ((answer : A) → IsClockOf now (shows answer)) →
    (answer : AccountAnswer A) → IsClockOf now (answer_told shows answer)
answer_clock shows now clocks reads.NoAccount clock is = absurd (cc)
answer_clock shows now clocks reads.NoHistory clock is = absurd (cc)
answer_clock shows now clocks (Found answer) clock is = clocks answer clock is

pub read_clock : (m : Machine) (ask : Read) → IsClockOf m.clock (read_told m ask)
read_clock m (read.LookupAccounts ids) = λ clock is. cc
read_clock m (read.LookupTransfers ids) = λ clock is. cc
read_clock m (read.HistoryTransfers filter) =
    answer_clock (told.Transfers m.clock) m.clock (λ answer clock is. cc) (history_answer m filter)
read_clock m (read.HistoryBalances filter) =
    answer_clock (told.Balances m.clock) m.clock (λ answer clock is. cc)
    (history_balances_answer m filter)
read_clock m (read.Query query) = query_clock m query
read_clock m (read.LookupPending ids) = λ clock is. cc
read_clock m (read.Statement account) =
    answer_clock (λ rows. told.Statement (statement_chunks rows)) m.clock
    (λ answer clock is. absurd (cc)) (statement_answer m account Oldest)
read_clock m (read.Lint events) = λ clock is. absurd (cc)
