use Rattle.commands.proofs.reasons.tell_file_fault.Goals as goal

pub returns-in-Unreadable : goal.returns-in-Unreadable
returns-in-Unreadable g c =
    let lines = c.tell_both.ensures.lines in
    (c.tell_both.ensures.status, (lines.0, λ other. absurd (other c.in-Unreadable.is), lines.1))
