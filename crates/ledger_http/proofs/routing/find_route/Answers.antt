use Rattle.std.proofs.Common.{◌≡◌, Ok, Some, ok_or, List, ℕ, refl, sym, ap, ◌∙◌, subst}
use Rattle.std.proofs.lemmas.Slice.Eq.{bytes_eq-Decides}
use Rattle.matchit.proofs.OnLiterals.{matchit_on_literals}
use Rattle.ledger_http.specs.declared.refusal.Refusal.TheVariants.{NoRoute}
use Rattle.ledger_http.specs.declared.route.Route.TheVariants.{Transfers}
use Rattle.ledger_http.specs.Routes.{path_of, service_rows, route_of}
use Rattle.ledger_http.proofs.routing.find_route.Goals as goal

route_of_transfers : route_of (path_of Transfers) ≡ Some Transfers
unfolding matchit_on_literals route_of service_rows
route_of_transfers = refl

pub returns-then-eq : goal.returns-then-eq
returns-then-eq c told =
    let is = (bytes_eq-Decides c.args.path.now c.path.result.now).0 (sym c.eq.ensures ∙ c.if-eq.true) ∙ c.path.ensures in
    subst (λ (path : List ℕ). Ok Transfers ≡ ok_or (route_of path) NoRoute) (sym is)
    (sym (ap (λ found. ok_or found NoRoute) route_of_transfers))
