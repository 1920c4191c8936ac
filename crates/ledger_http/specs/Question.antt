-- What the first message of some bytes asks for.
use Rattle.std.specs.Prelude.{◌≡◌, ◌≢◌, ◌||◌, ℕ, Bool, List, bytes_eq, codes, Option, option_and_then, ok_or, Result, Ok, Err, IsOk, MatchResult, if◌then◌else◌}
use Rattle.httparse.specs.Grammar.{RequestHead}
use Rattle.tenants.specs.KeyText.{key_of}
use Rattle.ledger_http.specs.declared.early.Early.{Early}
use Rattle.ledger_http.specs.declared.early.Early.TheVariants.{Page, Health, Refused}
use Rattle.ledger_http.specs.declared.refusal.Refusal.{Refusal}
use Rattle.ledger_http.specs.declared.refusal.Refusal.TheVariants.{NoRoute, BadMethod, UnknownKey, Unavailable}
use Rattle.ledger_http.specs.declared.route.Route.{Route}
use Rattle.ledger_http.specs.declared.request.Asked.{Asked}
use Rattle.ledger_http.specs.Results.{and_then}
use Rattle.ledger_http.specs.Head.{key_text, wants_detail}
use Rattle.ledger_http.specs.Message.{First, first_message, HasHead}
use Rattle.ledger_http.specs.Routes.{route_of, method_of, account_text, is_lint}

-- a request up to its key, whether it asks for detail, and its body as it stands
pub record Question : Type 0 where
  pub route : Route
  pub account : List ℕ
  pub key : List ℕ
  pub detail : Bool
  pub body : List ℕ

-- the route, where this is its method
abbrev pub by_method : List ℕ → Route → Result Route Refusal
by_method method route = if bytes_eq method (method_of route) then Ok route else Err BadMethod

-- what a message asks for by the routes, or the first of three refusals
abbrev pub question_by_route : First → Result Question Refusal
question_by_route first =
    and_then (ok_or (route_of first.head.target) NoRoute) (λ path.
    and_then (by_method first.head.method path) (λ route.
    and_then (ok_or (option_and_then key_of (key_text first.head)) UnknownKey) (λ key.
    Ok (record {
      route = route;
      account = account_text first.head.target;
      key = key;
      detail = wants_detail first.head || is_lint route;
      body = first.body;
    }))))

-- the path of the console's page
abbrev pub page_path : List ℕ
page_path = codes "/"

-- the path that tells whether the ledgers serve
abbrev pub health_path : List ℕ
health_path = codes "/health"

-- what has no key is told to whoever gets it
abbrev pub told_by : Early → List ℕ → Early
told_by told method = if bytes_eq method (codes "GET") then told else Refused BadMethod

-- a refusal, as what is told early
abbrev pub as_early : {X : Type 0} → Result X Refusal → Result X Early
as_early (Ok x) = Ok x
as_early (Err refusal) = Err (Refused refusal)

-- what a message asks for, or what it is told before any tenant is looked up
abbrev pub question_in : First → Result Question Early
question_in first =
    if bytes_eq first.head.target page_path then Err (told_by Page first.head.method)
    else if bytes_eq first.head.target health_path then Err (told_by Health first.head.method)
    else as_early (question_by_route first)

-- what the bytes ask for, whose head this is
unfoldable pub asked_of : List ℕ → Option RequestHead → Result Question Early
asked_of bytes head = and_then (as_early (first_message bytes head)) question_in

-- the request that is read
abbrev pub question_of : Asked → Question
question_of asked = record {
  route = asked.route;
  account = asked.account.now;
  key = asked.key;
  detail = asked.detail;
  body = asked.body.now;
}

-- an answer tells what is asked; want of memory says nothing of it
abbrev pub TellsQuestion : {E : Type 0} → E → Result Question E → Result Asked E → Type 0
TellsQuestion wanting expected result =
    MatchResult result
    (λ asked. expected ≡ Ok (question_of asked))
    (λ told. told ≢ wanting → expected ≡ Err told)

-- the answer to some bytes; want of memory is told behind the first five refusals alone, and never
-- in place of the page, nor of whether the ledgers serve
pub record IsAsked (bytes : List ℕ) (result : Result Asked Early) : Type 0 where
  pub head : Option RequestHead
  pub has : HasHead bytes head
  pub told : TellsQuestion (Refused Unavailable) (asked_of bytes head) result
  pub unavailable : result ≡ Err (Refused Unavailable) → IsOk (first_message bytes head)
  pub page : asked_of bytes head ≡ Err Page → result ≡ Err Page
  pub health : asked_of bytes head ≡ Err Health → result ≡ Err Health
