use Rattle.std.proofs.Common.{◌≡◌, ◌+◌, ◌-◌, refl, arith}
use Rattle.audit.proofs.MetRows.{met_more}
use Rattle.audit.proofs.meeting.MeetingHistoryTaker.take.Goals as goal

pub returns : goal.returns
returns c first rows met =
    let some = c.if-self-eq0.false in
    let left = c.args.self.now.left in
    let one : (left - 1) + 1 ≡ left = omega (arith, some) in
    met_more first c.args.self.now _ rows c.args.row met refl refl one c.if-not-stands.ensures
