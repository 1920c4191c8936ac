use Rattle.running.proofs.HeldStatuses.{statuses_push}
use Rattle.running.proofs.statuses.Statuses.add.Goals as goal

pub returns : goal.returns
returns c rows holds none opened =
    statuses_push rows c.args.row c.args.self.now _ holds none opened c.in_ok-insert.ensures.updates.0 c.in_ok-wait.ensures
