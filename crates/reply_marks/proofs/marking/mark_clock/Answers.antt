use Rattle.std.proofs.Common.{refl, ap, arith}
use Rattle.reply_marks.specs.Marking.{Later}
use Rattle.reply_marks.proofs.marking.mark_clock.Goals as goal

pub returns-clause-ok : goal.returns-clause-ok
returns-clause-ok g c =
    Later (omega (arith, c.if-clock-noted.false, ap (λ n. n.mark) c.noted.ensures)) c.in_ok-append.ensures.ok refl
