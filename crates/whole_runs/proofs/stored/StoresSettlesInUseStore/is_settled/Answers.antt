use Rattle.std.proofs.Common.{subst}
use Rattle.store.specs.StoreLaws.{finds_itself}
use Rattle.store.specs.Stores.{IsSettledStore}
use Rattle.whole_runs.proofs.stored.StoresSettlesInUseStore.is_settled.Goals as goal

pub returns : goal.returns
returns g c live =
    finds_itself c.args.ledgers.now (subst (λ store. IsSettledStore store) c.ledgers.view_is c.is_settled.ensures)
    live.1 live.0
