use Rattle.std.proofs.Common.{refl}
use Rattle.service.specs.Replies.{batch_request}
use Rattle.service.proofs.CallLemmas.{batch_serves, begins_served}
use Rattle.service.proofs.batches.BatchEvents.begin.Goals as goal

pub returns : goal.returns
returns g c =
    begins_served g.L.Ledgers.means c.args.digest.now _ _ c.args.moment c.args.ledgers.now _ _ _ refl
    c.whole.ensures
    (batch_serves g.L.Ledgers.means (batch_request c.args.self) c.args.moment c.args.digest.now
    c.args.ledgers.now c.in_batch.new.self c.in_batch.result c.batch_reply.result c.batch_reply.ensures
    c.in_batch.ensures.run c.in_batch.ensures.failed c.in_batch.ensures.finds c.in_batch.ensures.follows)
