use Rattle.std.proofs.Common.{None, refl}
use Rattle.polling.specs.Serving.{Unasked}
use Rattle.commands.proofs.RenewLemmas.{attends_so, attended_so}
use Rattle.commands.proofs.renewing.RenewingStewardKeptInUseStore.attend.Goals as goal

pub returns-in-Some : goal.returns-in-Some
returns-in-Some g c =
    Unasked refl
    (attends_so g.H.Home.opens None c.args.kept.now c.carry_out.new.kept c.carry_out.ensures.renews)

pub returns-then-is_answering : goal.returns-then-is_answering
returns-then-is_answering g c =
    attended_so g.H.Home.opens g.C.Moments.gives c.args.kept.now c.settle.new.kept c.args.moments.now
    c.settle.new.moments c.settle.ensures

pub returns-else-is_answering : goal.returns-else-is_answering
returns-else-is_answering g c = Unasked refl c.renew.ensures
