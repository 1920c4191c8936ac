use Rattle.std.proofs.Common.{sym, Some}
use Rattle.ledger_http.proofs.closing.is_closing.Goals as goal

pub returns-in-Ok-head_of : goal.returns-in-Ok-head_of
returns-in-Ok-head_of c =
    let good = c.in-Ok-head_of.ensures.good in
    (Some good.0, (c.in-Ok.size, sym c.in-Ok.ensures.size, good.1), good.2.close)
