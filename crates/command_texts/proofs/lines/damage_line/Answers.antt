use Rattle.std.proofs.Common.{append_assoc}
use Rattle.command_texts.proofs.lines.damage_line.Goals as goal

pub returns : goal.returns
returns c =
    let text = simp
    (c.number-kind.ensures, c.in_ok-digest.ensures, c.as_slice.ensures)
    at (c.in_ok-format.ensures.ok) in
    record { told = simp append_assoc text; fault = tt }
