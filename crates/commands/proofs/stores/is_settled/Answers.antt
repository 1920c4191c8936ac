use Rattle.std.proofs.Common.{subst}
use Rattle.chain.specs.Backends.{in_use}
use Rattle.service.specs.Openings.{run_meaning, IsSettled}
use Rattle.store.specs.StoreLaws.{store_meaning, finds_itself}
use Rattle.store.specs.declared.store.Store.{Store}
use Rattle.commands.proofs.stores.is_settled.Goals as goal

pub returns-clause-settled : goal.returns-clause-settled
returns-clause-settled g c =
    subst (λ (store : Store _ _). IsSettled (run_meaning (in_use store_meaning)) store) c.store.view_is
    (λ live. finds_itself c.store.inside.backend c.is_settled.ensures live.1 live.0)
