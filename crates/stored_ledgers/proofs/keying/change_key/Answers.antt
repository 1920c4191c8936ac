use Rattle.stored_ledgers.proofs.KeyLemmas.{keying_change}
use Rattle.stored_ledgers.proofs.ServingLemmas.{changes_tenants}
use Rattle.stored_ledgers.proofs.keying.change_key.Goals as goal

pub returns : goal.returns
returns g c =
    let did = c.in_transaction.ensures in
    changes_tenants (keying_change c.args.name.now c.args.digest.now) _ _ _ c.in_transaction.result
    did.told did.again did.quiet did.same did.open did.survives
