use Rattle.std.proofs.Common.{List, [], ◌∷◌, ◌≡◌, ℕ, codes, refl}
use Rattle.std.proofs.lemmas.Result.{IfOk-weaker}
use Rattle.serde_json.specs.Data.{Data}
use Rattle.wire.specs.Reply.{list_data, member_of, timed_hold_data, wide_data}
use Rattle.wire.proofs.Texts.{same_text}
use Rattle.wire.proofs.page_text.page_text.Goals as goal

pub returns-in-OpenHolds : goal.returns-in-OpenHolds
returns-in-OpenHolds c =
    let holds : List ℕ × Data = (codes "pending", list_data timed_hold_data c.in-OpenHolds.holds) in
    let written : List (List ℕ × Data) =
    member_of c.u64.result ∷ member_of c.u64-2.result
    ∷ (codes "pending", list_data timed_hold_data c.as_slice-in-OpenHolds.result.now) ∷ [] in
    let members : List (List ℕ × Data) =
    (codes "clock", wide_data c.args.clock) ∷ (codes "next", wide_data c.args.next) ∷ holds ∷ [] in
    let same : written ≡ members =
    rw (c.u64.ensures, c.u64-2.ensures, c.as_slice-in-OpenHolds.ensures) refl in
    rw (c.in-OpenHolds.is)
    (IfOk-weaker c.list_text-in-OpenHolds.result _ _
    (λ text is. same_text written members text.items same is)
    c.list_text-in-OpenHolds.ensures)
