use Rattle.std.proofs.Common.{[], refl, subst, sym}
use Rattle.std.proofs.lemmas.List.{append-nil}
use Rattle.command_texts.specs.Lines.{IsWritten, fault_line}
use Rattle.commands.proofs.reasons.tell_advised.Goals as goal

pub returns-in-Behind : goal.returns-in-Behind
returns-in-Behind g c =
    let lines = c.tell_fault_for.ensures.lines in
    (c.tell_fault_for.ensures.status, (lines.0, λ other lacking. absurd (lacking c.in-Behind.is), lines.1))

pub returns-in_default : goal.returns-in_default
returns-in_default g c = (
  c.tell_fault.ensures.status,
  (
    [],
    λ other lacking. refl,
    subst (IsWritten _ _ _) (sym (append-nil (fault_line c.args.fault))) c.tell_fault.ensures.line,
  ),
)
