-- The routes, and which of them a path has.
use Rattle.std.specs.Prelude.{ℕ, Bool, true, false, List, [], ◌∷◌, bytes_eq, codes, Option, option_map, Result, Ok, Err, nat_eq, drop, length, if◌then◌else◌}
use Rattle.std.specs.List.{filter, find, fold, starts_with}
use Rattle.matchit.specs.Rows.{RowsOf}
use Rattle.matchit.specs.Order.{placed}
use Rattle.matchit.specs.Route.{parse_route, Scan}
use Rattle.matchit.specs.Router.{RouteOf, route_from}
use Rattle.matchit.specs.declared.error.InsertError.{InsertError}
use Rattle.matchit.specs.Seek.{first}
use Rattle.ledger_http.specs.declared.route.Route.{Route}
use Rattle.ledger_http.specs.declared.route.Route.TheVariants.{Accounts, Transfers, LookupAccounts}
use Rattle.ledger_http.specs.declared.route.Route.TheVariants.{LookupTransfers, HistoryTransfers}
use Rattle.ledger_http.specs.declared.route.Route.TheVariants.{HistoryBalances, QueryAccounts}
use Rattle.ledger_http.specs.declared.route.Route.TheVariants.{QueryTransfers, LookupPending}
use Rattle.ledger_http.specs.declared.route.Route.TheVariants.{OpenPending, Statement}
use Rattle.ledger_http.specs.declared.route.Route.TheVariants.{LintAccounts, LintTransfers}

-- the path of each route
abbrev pub path_of : Route → List ℕ
path_of Accounts = codes "/accounts"
path_of Transfers = codes "/transfers"
path_of LookupAccounts = codes "/accounts/lookup"
path_of LookupTransfers = codes "/transfers/lookup"
path_of HistoryTransfers = codes "/history/transfers"
path_of HistoryBalances = codes "/history/balances"
path_of QueryAccounts = codes "/query/accounts"
path_of QueryTransfers = codes "/query/transfers"
path_of LookupPending = codes "/pending/lookup"
path_of OpenPending = codes "/pending/open"
path_of Statement = codes "/statement/{account}"
path_of LintAccounts = codes "/lint/accounts"
path_of LintTransfers = codes "/lint/transfers"

-- the method of each route
abbrev pub method_of : Route → List ℕ
method_of Accounts = codes "POST"
method_of Transfers = codes "POST"
method_of LookupAccounts = codes "POST"
method_of LookupTransfers = codes "POST"
method_of HistoryTransfers = codes "POST"
method_of HistoryBalances = codes "POST"
method_of QueryAccounts = codes "POST"
method_of QueryTransfers = codes "POST"
method_of LookupPending = codes "POST"
method_of OpenPending = codes "POST"
method_of Statement = codes "GET"
method_of LintAccounts = codes "POST"
method_of LintTransfers = codes "POST"

-- whether a route judges a body alone, and always says where it refuses the body
abbrev pub is_lint : Route → Bool
is_lint LintAccounts = true
is_lint LintTransfers = true
is_lint route = false

-- all of them
abbrev pub all_routes : List Route
all_routes =
    Accounts ∷ Transfers ∷ LookupAccounts ∷ LookupTransfers ∷ HistoryTransfers ∷ HistoryBalances
    ∷ QueryAccounts ∷ QueryTransfers ∷ LookupPending ∷ OpenPending ∷ Statement ∷ LintAccounts
    ∷ LintTransfers ∷ []

-- those to which bodies are posted
abbrev pub posted_routes : List Route
posted_routes = filter (λ route. bytes_eq (method_of route) (codes "POST")) all_routes

-- the one of them that has a path
abbrev pub posted_route : List ℕ → Option Route
posted_route path = find (λ route. bytes_eq path (path_of route)) posted_routes

-- the rows of a router with one more; a path that is none adds none
abbrev pub rows_with :
    RowsOf (RouteOf Route) → Route → Result Scan InsertError → RowsOf (RouteOf Route)
rows_with rows route (Ok s) = placed (s.pattern, route_from s route) rows
rows_with rows route (Err e) = rows

-- the rows of a router that has all routes
unfoldable pub service_rows : RowsOf (RouteOf Route)
service_rows = fold (λ rows route. rows_with rows route (parse_route (path_of route))) [] all_routes

-- the route that a path has
unfoldable pub route_of : List ℕ → Option Route
route_of path = option_map (λ found. found.value) (first service_rows path)

-- what stands before the account in the path of a statement
abbrev pub statement_path : List ℕ
statement_path = codes "/statement/"

-- the account in a path; a path that names none has the empty text
abbrev pub account_text : List ℕ → List ℕ
account_text path =
    if starts_with nat_eq path statement_path then drop (length statement_path) path else []
