use Rattle.std.proofs.Common.{refl, sym, subst}
use Rattle.polling.specs.Round.{IsNoneOf}
use Rattle.polling.proofs.RoundLemmas.{member_here, nobody_here}
use Rattle.polling.proofs.round.is_among.Goals as goal

pub loop-member-init : goal.loop-member-init
loop-member-init c none = none

pub loop-member-preserved : goal.loop-member-preserved
loop-member-preserved c none =
    c.loop-member.invariant
    (subst (IsNoneOf c.args.number)
    (sym (member_here _ _ _ _ refl c.loop-member-test.true)) (c.if-member-number.false, none))

pub returns : goal.returns
returns c is =
    c.loop-member.invariant
    (subst (IsNoneOf c.args.number) (sym (nobody_here _ _ _ refl c.loop-member-test.false)) tt)
