use Rattle.records.specs.Queries.{found_holds}
use Rattle.chain.specs.LedgerReads.{seen_of_list}
use Rattle.chain.proofs.LookLemmas.{shown_read}
use Rattle.chain.proofs.ledgers.Ledgers.lookup_pending.Goals as goal

pub returns : goal.returns
returns g c =
    shown_read seen_of_list (λ m. found_holds m c.args.ids.now) g.Self.Ledgers.means c.args.digest.now c.args.self.now
    c.in_batch.new.self c.in_batch.result c.read_answer.result c.read_answer.ensures c.in_batch.ensures.run
    c.in_batch.ensures.failed c.in_batch.ensures.finds c.in_batch.ensures.follows
