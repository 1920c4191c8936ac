use Rattle.std.proofs.Common.{◌≡◌, ◌∙◌, Some, ap, rules, sym}
use Rattle.std.specs.Prelude.{option_map}
use Rattle.serde_json.specs.Find.{as_object}
use Rattle.serde_json.specs.View.{members_view, view}
use Rattle.control.specs.Members.{count}
use Rattle.control.proofs.MemberLemmas.{count_is}
use Rattle.control.proofs.members.members.Goals as goal

pub returns : goal.returns
returns c =
    let object : as_object (view c.args.value.now) ≡ Some (members_view c.in_ok-as_object.field-0.now.entries) = search rules in
    ap (λ n. Some n) (c.len.ensures.len ∙ sym (count_is c.in_ok-as_object.field-0.now.entries))
    ∙ ap (option_map count) (sym object)
