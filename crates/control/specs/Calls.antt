-- The calls of an operator, by their methods and paths.
use Rattle.std.specs.Prelude.{ℕ, List, [], ◌∷◌, ◌&&◌, bytes_eq, codes, option_map, ok_or, Result, Ok, Err, if◌then◌else◌}
use Rattle.std.specs.List.{find, list_any}
use Rattle.control.specs.declared.asked.Asked.{Asked}
use Rattle.control.specs.declared.asked.Asked.TheVariants.{Tenants, AddTenant, ChangeKey, Status, Copy, Statement, Stop}
use Rattle.control.specs.declared.refusal.Refusal.{Refusal}
use Rattle.control.specs.declared.refusal.Refusal.TheVariants.{NoRoute, BadMethod}

-- a method and a path, and what they ask
abbrev pub CallRow : Type 0
CallRow = List ℕ × List ℕ × Asked

-- all of them
abbrev pub calls : List CallRow
calls =
    (codes "GET", codes "/control/tenants", Tenants)
    ∷ (codes "POST", codes "/control/tenants", AddTenant)
    ∷ (codes "POST", codes "/control/keys", ChangeKey)
    ∷ (codes "GET", codes "/control/status", Status)
    ∷ (codes "POST", codes "/control/copy", Copy)
    ∷ (codes "POST", codes "/control/statement", Statement)
    ∷ (codes "POST", codes "/control/stop", Stop)
    ∷ []

-- the row with this method and this path; it is told whether it is the path or the method that is
-- wrong
abbrev pub asked_at : List ℕ → List ℕ → Result Asked Refusal
asked_at method path =
    if list_any (λ (row : CallRow). bytes_eq path row.1) calls
    then ok_or (option_map (λ (row : CallRow). row.2)
    (find (λ (row : CallRow). bytes_eq path row.1 && bytes_eq method row.0) calls)) BadMethod
    else Err NoRoute

-- the same of a path with one method
abbrev pub asked_by : List ℕ → List ℕ → Asked → Result Asked Refusal
asked_by method wanted asked = if bytes_eq method wanted then Ok asked else Err BadMethod
