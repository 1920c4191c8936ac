use Rattle.records.specs.Queries.{queried_transfers}
use Rattle.chain.specs.LedgerReads.{seen_of_page}
use Rattle.chain.proofs.LookLemmas.{shown_read}
use Rattle.chain.proofs.ledgers.Ledgers.query_transfers.Goals as goal

pub returns : goal.returns
returns g c =
    shown_read seen_of_page (λ m. queried_transfers m c.args.asked.now) g.Self.Ledgers.means c.args.digest.now c.args.self.now
    c.in_batch.new.self c.in_batch.result c.read_answer.result c.read_answer.ensures c.in_batch.ensures.run
    c.in_batch.ensures.failed c.in_batch.ensures.finds c.in_batch.ensures.follows
