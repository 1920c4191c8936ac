use Rattle.std.proofs.Common.{sym}
use Rattle.engine.proofs.NextAccountLemmas.{next_account}
use Rattle.engine.proofs.accounts.decide_account.Goals as goal

pub returns-in-None-clause-next : goal.returns-in-None-clause-next
returns-in-None-clause-next c m =
    next_account m c.args.old.now c.args.ev.now c.args.timestamp c.open.result c.open.ensures.stored c.open.ensures.widths (sym c.in-None.ensures)
