use Rattle.std.proofs.Common.{map, rules, ◌∙◌}
use Rattle.std.proofs.lemmas.Result.{on_ok_weaker}
use Rattle.wire.specs.Reply.{member_of}
use Rattle.wire.proofs.Texts.{object_taken}
use Rattle.wire.proofs.members.write_object.Goals as goal

pub returns : goal.returns
returns c = record {
  ok =
      on_ok_weaker c.end_object.result
      (λ ended. ended ∙ object_taken (map member_of c.args.members.now) _ _ _
      c.in_ok-begin_object.ensures.ok c.in_ok-write_members.ensures.ok)
      c.end_object.ensures.ok;
  before = search rules;
}
