use Rattle.commands.proofs.CourseTimes.{shows_nowhere}
use Rattle.commands.proofs.laws.settling_shows_nowhere.Goals as goal

pub returns : goal.returns
returns c =
    shows_nowhere c.settling_first_changes_nothing.ensures.accounts
    c.settling_first_changes_nothing.ensures.transfers c.each_tenant_sees_itself.ensures
