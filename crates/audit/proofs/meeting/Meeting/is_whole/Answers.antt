use Rattle.std.proofs.Common.{◌≡◌, arith}
use Rattle.audit.proofs.MetRows.{whole_if}
use Rattle.audit.proofs.meeting.Meeting.is_whole.Goals as goal

pub returns : goal.returns
returns c =
    let none = c.if-self-gt0.false in
    let left : c.args.self.now.left ≡ 0 = omega (arith, none) in
    whole_if c.read_in_order.ensures.ascending c.ascend.result c.args.self.now c.if-self.false left c.ascend.ensures
