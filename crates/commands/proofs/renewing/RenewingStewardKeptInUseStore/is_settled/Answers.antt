use Rattle.commands.proofs.RenewLemmas.{kept_settled}
use Rattle.commands.proofs.renewing.RenewingStewardKeptInUseStore.is_settled.Goals as goal

pub returns-in-Open : goal.returns-in-Open
returns-in-Open g c =
    kept_settled c.args.kept.now c.in-Open.store c.in-Open.is c.is_settled.ensures.settled
