-- When a router takes one route more.
use Rattle.std.specs.Prelude.{◌≡◌, None, Ok}
use Rattle.matchit.specs.Rows.{RowsOf}
use Rattle.matchit.specs.Route.{parse_route, Scan}
use Rattle.matchit.specs.Router.{RouteOf, nearest}
use Rattle.ledger_http.specs.declared.route.Route.{Route}
use Rattle.ledger_http.specs.Routes.{path_of}

-- its path is one, and conflicts with no other
abbrev pub CanAdd : RowsOf (RouteOf Route) → Route → Type 0
CanAdd rows route =
    (s : Scan) × (parse_route (path_of route) ≡ Ok s) × (nearest s.pattern rows ≡ None)
