use Rattle.std.proofs.Common.{sym, rules}
use Rattle.ledger_http.proofs.FirstLemmas.{IsRefused-head}
use Rattle.ledger_http.proofs.LaterLemmas.{IsRefused-long}
use Rattle.ledger_http.proofs.RefusalLemmas.{IsHeadRefused-sure}
use Rattle.ledger_http.proofs.progress.look_on.Goals as goal

pub returns-in-Err-announced-clause-refused : goal.returns-in-Err-announced-clause-refused
returns-in-Err-announced-clause-refused c =
    IsRefused-head c.args.bytes.now c.in-Ok.head c.in-Err-announced.refusal (sym c.in-Ok.ensures.size)
    c.in-Err-announced.ensures.bad

pub returns-in-Err-announced-clause-for_good : goal.returns-in-Err-announced-clause-for_good
returns-in-Err-announced-clause-for_good c = IsHeadRefused-sure _ _ c.in-Err-announced.ensures.bad

pub returns-else-eq-clause-refused : goal.returns-else-eq-clause-refused
returns-else-eq-clause-refused c =
    IsRefused-long c.args.bytes.now c.in-Err.refusal (sym c.in-Err.ensures.size) (search rules)
