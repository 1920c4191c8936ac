use Rattle.std.proofs.Common.{◌∙◌, subst}
use Rattle.command_texts.specs.Lines.{IsWritten}
use Rattle.command_texts.proofs.LineLemmas.{is_written}
use Rattle.command_texts.proofs.lines.tell_fault.Goals as goal

pub returns-clause-line : goal.returns-clause-line
returns-clause-line g c =
    subst (IsWritten _ _ _) (c.as_bytes.ensures.value ∙ c.line.ensures)
    (is_written _ _ _ _ _ c.put_all.result c.put_all.ensures.failed
    c.put_all.ensures.ok c.put_all.ensures.err)
