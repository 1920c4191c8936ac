use Rattle.std.proofs.Common.{[], subst, sym}
use Rattle.std.proofs.lemmas.List.{append-nil}
use Rattle.command_texts.specs.Lines.{IsWritten, fault_line}
use Rattle.commands.proofs.reasons.tell_both.Goals as goal

pub returns-in-None-clause-lines : goal.returns-in-None-clause-lines
returns-in-None-clause-lines g c = (
  [],
  subst (IsWritten _ _ _) (sym (append-nil (fault_line c.args.fault))) c.tell_fault.ensures.line,
)
