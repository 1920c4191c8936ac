use Rattle.std.proofs.Common.{sym, ◌∙◌}
use Rattle.running.proofs.HeldStatuses.{statuses_end, statuses_end_none}
use Rattle.running.proofs.statuses.Statuses.end.Goals as goal

pub returns-in_default : goal.returns-in_default
returns-in_default c rows holds closed =
    statuses_end_none rows c.args.transfer c.args.state c.args.self.now holds (sym (holds.found c.args.transfer) ∙ sym c.get.ensures.value ∙ sym c.copied.ensures ∙ c.in_default.is)

pub returns : goal.returns
returns c rows holds closed =
    statuses_end rows c.args.transfer c.args.state c.in-Some.row c.args.self.now _ holds (sym (holds.found c.args.transfer) ∙ sym c.get.ensures.value ∙ sym c.copied.ensures ∙ c.in-Some.is) closed c.in_ok-insert.ensures.updates.0 c.forget.ensures.left
