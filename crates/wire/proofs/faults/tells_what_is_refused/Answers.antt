use Rattle.std.proofs.Common.{◌≡◌, ◌≢◌, ℕ, List, Result, Ok, Err, refl}
use Rattle.ledger_http.specs.declared.refusal.Refusal.{Refusal}
use Rattle.ledger_http.specs.declared.route.Route.{Route}
use Rattle.ledger_http.specs.declared.route.Route.TheVariants as route
use Rattle.wire.specs.declared.request.Request.{Request}
use Rattle.wire.specs.Body.{accounts_in, transfers_in, ids_in, filter_in, query_in, page_in}
use Rattle.wire.specs.Faults.{refusal_in, refused}
use Rattle.wire.specs.Meaning.{meaning_of, request_for}
use Rattle.wire.proofs.faults.tells_what_is_refused.Goals as goal

-- a request is refused as what it is made of
same : {A : Type 0} (made_of : A → Request) (read : Result A Refusal)
    → refused read ≡ refused (request_for made_of read)
same made_of (Ok a) = refl
same made_of (Err e) = refl

told : (r : Route) (account body : List ℕ) → r ≢ route.Statement
    → refusal_in r body ≡ refused (meaning_of r account body)
told route.Accounts account body other = same _ (accounts_in body)
told route.Transfers account body other = same _ (transfers_in body)
told route.LookupAccounts account body other = same _ (ids_in body)
told route.LookupTransfers account body other = same _ (ids_in body)
told route.HistoryTransfers account body other = same _ (filter_in body)
told route.HistoryBalances account body other = same _ (filter_in body)
told route.QueryAccounts account body other = same _ (query_in body)
told route.QueryTransfers account body other = same _ (query_in body)
told route.LookupPending account body other = same _ (ids_in body)
told route.OpenPending account body other = same _ (page_in body)
told route.Statement account body other = absurd (other refl)
told route.LintAccounts account body other = same _ (accounts_in body)
told route.LintTransfers account body other = same _ (transfers_in body)

pub returns : goal.returns
returns c = told
