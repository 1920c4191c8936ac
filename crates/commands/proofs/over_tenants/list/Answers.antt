use Rattle.std.proofs.Common.{List, ℕ, refl, subst}
use Rattle.control.specs.Listing.{HasLines}
use Rattle.commands.proofs.over_tenants.list.Goals as goal

pub returns-in_ok-put_listed-in-Some-clause-listed : goal.returns-in_ok-put_listed-in-Some-clause-listed
returns-in_ok-put_listed-in-Some-clause-listed g c =
    let listed = c.in_ok-put_listed-in-Some.ensures.listed in (
      listed.0,
      (
        _,
        refl,
        rw c.in-Some.is at c.in_ok-answer.ensures,
        subst (λ (body : List ℕ). HasLines body listed.0) c.body.ensures listed.1,
      ),
      listed.2,
    )
