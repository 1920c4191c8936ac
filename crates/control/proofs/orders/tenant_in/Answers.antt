use Rattle.std.proofs.Common.{◌≡◌, ◌∙◌, ℕ, List, Some, ap, rules}
use Rattle.std.specs.Prelude.{option_and_then}
use Rattle.std.proofs.lemmas.Result.{IfOk-weaker}
use Rattle.serde_json.specs.View.{view}
use Rattle.wire.specs.Body.{json_of}
use Rattle.control.specs.Orders.{texts_in}
use Rattle.control.proofs.orders.tenant_in.Goals as goal

pub returns-in-Some-texts-clause-named : goal.returns-in-Some-texts-clause-named
returns-in-Some-texts-clause-named c =
    let texts : List ℕ × List ℕ = (c.in-Some-texts.name.now, c.in-Some-texts.key.now) in
    let json : json_of c.args.body.now ≡ Some (view c.in-Some.value) = search rules in
    let two : texts_in (view c.in-Some.value) ≡ Some texts = search rules in
    IfOk-weaker c.named_key.result _ _ (λ named h. (texts, ap (option_and_then texts_in) json ∙ two, h))
    c.named_key.ensures.named
