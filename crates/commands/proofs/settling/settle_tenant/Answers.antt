use Rattle.commands.proofs.SettleLemmas.{settled_moves}
use Rattle.commands.proofs.settling.settle_tenant.Goals as goal

pub returns : goal.returns
returns g c =
    settled_moves c.args.digest.now c.args.until c.args.store.now c.in_batch-settled.new.self
    c.in_batch-settled.result c.in_batch-settled.ensures.run c.in_batch-settled.ensures.finds
    c.is_settled.ensures.settled c.in_batch-settled.ensures.follows
