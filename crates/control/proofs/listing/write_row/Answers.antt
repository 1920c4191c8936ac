use Rattle.std.proofs.Common.{◌≡◌, List, ℕ, [], ◌∷◌, codes, decimal, refl, subst}
use Rattle.hex.specs.Hex.{encode_lower}
use Rattle.serde_json.specs.Data.{Data, string}
use Rattle.wire.specs.Reply.{member_of, object_with}
use Rattle.wire.specs.Writing.{AddsData}
use Rattle.control.proofs.listing.write_row.Goals as goal

pub returns : goal.returns
returns c =
    let row = c.args.row.now in
    let written : List (List ℕ × Data) =
    member_of c.text.result ∷ member_of c.text-2.result ∷ member_of c.u64.result ∷ [] in
    let members : List (List ℕ × Data) =
    (codes "name", string row.name) ∷ (codes "digest", string (encode_lower row.digest))
    ∷ (codes "clock", string (decimal row.clock)) ∷ [] in
    let same : written ≡ members =
    rw (
      c.text.ensures,
      c.text-2.ensures,
      c.u64.ensures,
      c.as_str.ensures.same,
      c.as_str-2.ensures.value,
      c.in_ok-digest.ensures,
      c.as_slice.ensures,
    )
    refl in
    subst
    (λ (ms : List (List ℕ × Data)). AddsData (object_with ms) c.args.writer.now
    c.write_object.new.writer c.write_object.result)
    same c.write_object.ensures
