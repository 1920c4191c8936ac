use Rattle.std.proofs.Common.{◌≡◌, ◌∙◌, Some, ap, refl, rules}
use Rattle.std.specs.Prelude.{option_and_then}
use Rattle.serde_json.specs.View.{view}
use Rattle.wire.specs.Body.{json_of}
use Rattle.control.specs.PieceAsked.{Wanted, wanted_in}
use Rattle.control.proofs.piece_asked.piece_of.Goals as goal

pub returns-clause-asked : goal.returns-clause-asked
returns-clause-asked c =
    let found = c.in-Some-wanted_in.wanted in
    let wanted : Wanted = (found.tenant.now, found.account, found.from, found.to, found.is_reversed) in
    let json : json_of c.args.body.now ≡ Some (view c.in-Some.value) = search rules in
    let all : wanted_in (view c.in-Some.value) ≡ Some wanted = search rules in (
      wanted,
      ap (option_and_then wanted_in) json ∙ all,
      (search rules, rw c.in_ok-name.ensures.same refl),
    )
