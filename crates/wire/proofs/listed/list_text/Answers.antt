use Rattle.std.proofs.Common.{map, rules, ◌∙◌, ◌∷◌, ◌++◌, append_assoc, ap, sym}
use Rattle.json.specs.Tree.{json_tokens}
use Rattle.serde_json.specs.Written.{outline}
use Rattle.wire.specs.Reply.{list_data, member_of, object_with}
use Rattle.wire.proofs.Texts.{compact_text_from_tokens, member_tokens-between, object_taken}
use Rattle.wire.proofs.listed.list_text.Goals as goal

pub returns : goal.returns
returns g c =
    let front = map member_of c.args.front.now in
    let behind = map member_of c.args.behind.now in
    let name = c.args.name.now in
    let list = list_data g.F.Form.shows c.args.list.now in
    let members = front ++ ((name, list) ∷ behind) in
    compact_text_from_tokens (object_with members) _ _ _ c.into_inner.ensures.items (search rules)
    (c.in_ok-end_object.ensures.ok ∙ object_taken members _ _ _ c.in_ok-begin_object.ensures.ok
    (rw (
      c.in_ok-write_members-2.ensures.ok,
      c.in_ok-write_list.ensures.ok,
      c.in_ok-write_members.ensures.ok,
      sym (member_tokens-between front behind name list),
    )
    (simp append_assoc))
    ∙ ap (λ ts. ts ++ json_tokens (outline (object_with members))) c.new-writer.ensures.tokens)
