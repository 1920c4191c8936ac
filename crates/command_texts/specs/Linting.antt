-- What is told of a body that is judged without a service.
use Rattle.std.specs.Prelude.{◌≡◌, ◌⊎◌, ℕ, List, [], ◌∷◌, ◌++◌, Option, None, Some, codes}
use Rattle.std.specs.Io.KnownBytes.{Appends}
use Rattle.ledger_http.specs.declared.route.Route.{Route}
use Rattle.ledger_http.specs.Routes.{posted_route}
use Rattle.wire.specs.declared.body_fault.BodyFault.{BodyFault}
use Rattle.wire.specs.Faults.{fault_on, refusal_in, told_refusal}
use Rattle.command_texts.specs.BodyLines.{body_line}

-- `ok` and 0 where the service takes the body on the route
abbrev pub TellsGood : Route → List ℕ → Option (List ℕ) → Option (List ℕ) → ℕ → Type 0
TellsGood route body old new status =
    (refusal_in route body ≡ None)
    × (status ≡ 0)
    × Appends old new (codes "ok" ++ 10 ∷ [])

-- and 1 and a line where it refuses the body: with what, at which event or id, in which field, and
-- what is wanted there
abbrev pub TellsBad : Route → List ℕ → Option (List ℕ) → Option (List ℕ) → ℕ → Type 0
TellsBad route body old new status =
    (fault : BodyFault)
    × (refusal_in route body ≡ told_refusal (Some fault))
    × (fault_on route body ≡ Some fault)
    × (status ≡ 1)
    × Appends old new (body_line fault)

-- what is told of a body that is posted to a path
abbrev pub Lints : List ℕ → List ℕ → Option (List ℕ) → Option (List ℕ) → ℕ → Type 0
Lints path body old new status =
    (route : Route)
    × (posted_route path ≡ Some route)
    × (TellsGood route body old new status ⊎ TellsBad route body old new status)
