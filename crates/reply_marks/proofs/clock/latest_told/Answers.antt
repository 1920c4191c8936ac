use Rattle.std.proofs.Common.{◌≡◌, arith}
use Rattle.reply_marks.proofs.ReplyLemmas.{one_clock}
use Rattle.reply_marks.proofs.clock.latest_told.Goals as goal

pub returns-in-Some-clause-told : goal.returns-in-Some-clause-told
returns-in-Some-clause-told c other tells =
    let same : c.in-Some.other ≡ other = one_clock _ _ _ c.in-Some.ensures tells in
    grind (arith, same)

pub returns-in-None-clause-told : goal.returns-in-None-clause-told
returns-in-None-clause-told c other tells = absurd (c.in-None.ensures other tells)
