use Rattle.std.proofs.Common.{map, rules}
use Rattle.wire.specs.Reply.{member_of, object_with}
use Rattle.wire.proofs.Texts.{compact_text_from_tokens}
use Rattle.wire.proofs.members.object_text.Goals as goal

pub returns : goal.returns
returns c =
    compact_text_from_tokens (object_with (map member_of c.args.members.now)) _ _ _
    c.into_inner.ensures.items (search rules) (search rules)
