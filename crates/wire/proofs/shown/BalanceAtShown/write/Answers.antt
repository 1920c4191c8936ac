use Rattle.std.proofs.Common.{ap, map, ◌∙◌}
use Rattle.wire.specs.Reply.{member_of, balance_members}
use Rattle.wire.proofs.Texts.{same_object}
use Rattle.wire.proofs.shown.BalanceAtShown.write.Goals as goal

pub returns : goal.returns
returns c =
    same_object _ (balance_members c.args.self.now) _ _ _
    (ap (map member_of) c.as_slice.ensures ∙ c.balance_members.ensures) c.write_object.ensures
