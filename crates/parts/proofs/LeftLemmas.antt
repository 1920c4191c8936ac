-- A part, and what is left behind it.
use Rattle.std.proofs.Common.{◌≡◌, ◌∙◌, ℕ, List, [], ◌++◌, Option, Some, None, refl, sym, ap}
use Rattle.records.specs.Machine.{Machine}
use Rattle.chain.specs.Ledgers.{Tenants}
use Rattle.parts.specs.Parts.{IsLeftBehind, IsPart, chunks_by, chunks_in, chunks_left}
use Rattle.parts.specs.declared.rest.Part.{Part}
use Rattle.parts.specs.declared.rest.Rest.{Rest}

left_by :
    (m : Machine) (rest : Rest) (tenants : Tenants) (behind : Option Rest) →
    tenants rest.digest ≡ Some m → IsLeftBehind m rest behind →
    chunks_left tenants behind ≡ chunks_in m behind
left_by m rest tenants None is left = refl
left_by m rest tenants (Some next) is left =
    ap (λ (o : Option Machine). chunks_by o next) (ap tenants left.digest ∙ is)

-- with what is left behind it a part is all that was left
pub part_left :
    (tenants : Tenants) (rest : Rest) (part : Part) → IsPart [] (tenants rest.digest) rest part →
    part.chunks ++ chunks_left tenants part.rest ≡ chunks_left tenants (Some rest)
part_left tenants rest part is =
    ap (λ (xs : List ℕ). part.chunks ++ xs) (left_by is.machine rest tenants part.rest is.is is.behind)
    ∙ is.chunks ∙ sym (ap (λ (o : Option Machine). chunks_by o rest) is.is)
