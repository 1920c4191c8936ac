use Rattle.std.proofs.Common.{append_assoc}
use Rattle.commands.proofs.contents.contents_line.Goals as goal

pub returns : goal.returns
returns c = record { told = simp append_assoc (c.in_ok-format.ensures.ok); fault = tt }
