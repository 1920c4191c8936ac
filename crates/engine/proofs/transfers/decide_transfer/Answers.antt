use Rattle.std.proofs.Common.{sym}
use Rattle.engine.proofs.AcceptedIsNext.{decided_next}
use Rattle.engine.proofs.transfers.decide_transfer.Goals as goal

pub returns-in-None-clause-next : goal.returns-in-None-clause-next
returns-in-None-clause-next c m valid facts at next =
    decided_next m c.args.facts.now c.args.ev.now c.args.timestamp c.args.at c.accept.result valid facts at next c.accept.ensures.widths
    (sym c.in-None.ensures, c.accept.ensures.stored, c.accept.ensures.ends) c.accept.ensures.debit c.accept.ensures.credit
