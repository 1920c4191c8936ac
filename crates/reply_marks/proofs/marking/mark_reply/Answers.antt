use Rattle.std.proofs.Common.{Result, Ok, Err, IfOk}
use Rattle.reply_marks.specs.Marking.{Told}
use Rattle.reply_marks.proofs.marking.mark_reply.Goals as goal

if_ok : {A E : Type 0} (P Q : A → Type 0) (result : Result A E) → ((a : A) → P a → Q a) → IfOk result P → IfOk result Q
if_ok P Q (Ok value) so holds = so value holds
if_ok P Q (Err error) so holds = tt

pub returns-in-Some-clause-ok : goal.returns-in-Some-clause-ok
returns-in-Some-clause-ok g c =
    if_ok _ _ c.mark_clock.result (λ is_new marked. Told c.in-Some.clock c.in-Some.ensures marked) c.mark_clock.ensures.ok
