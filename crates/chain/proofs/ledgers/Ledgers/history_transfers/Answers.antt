use Rattle.records.specs.Reads.{history_answer}
use Rattle.chain.specs.LedgerReads.{seen_of_list}
use Rattle.chain.proofs.LookLemmas.{account_read}
use Rattle.chain.proofs.ledgers.Ledgers.history_transfers.Goals as goal

pub returns : goal.returns
returns g c =
    account_read seen_of_list (λ m. history_answer m c.args.asked.now) g.Self.Ledgers.means c.args.digest.now c.args.self.now
    c.in_batch.new.self c.in_batch.result c.account_answer.result c.account_answer.ensures c.in_batch.ensures.run
    c.in_batch.ensures.failed c.in_batch.ensures.finds c.in_batch.ensures.follows
