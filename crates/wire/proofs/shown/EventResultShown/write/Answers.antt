use Rattle.std.proofs.Common.{ap, map, ◌∙◌}
use Rattle.wire.specs.Reply.{member_of, result_members}
use Rattle.wire.proofs.Texts.{same_object}
use Rattle.wire.proofs.shown.EventResultShown.write.Goals as goal

pub returns : goal.returns
returns g c =
    same_object _ (result_members (λ r. (g.R.ReplyResult.told_of r).0) (λ r. (g.R.ReplyResult.told_of r).1) c.args.self.now) _ _ _
    (ap (map member_of) c.as_slice.ensures ∙ c.result_members.ensures) c.write_object.ensures
