use Rattle.stored_ledgers.proofs.JoinLemmas.{joining_change}
use Rattle.stored_ledgers.proofs.ServingLemmas.{changes_tenants}
use Rattle.stored_ledgers.proofs.joining.join.Goals as goal

pub returns : goal.returns
returns g c =
    let did = c.in_transaction.ensures in
    changes_tenants (joining_change c.args.name.now c.args.digest.now) _ _ _ c.in_transaction.result
    did.told did.again did.quiet did.same did.open did.survives
