use Rattle.std.proofs.Common.{◌++◌, ◌∷◌, [], ◌∙◌, subst, sym}
use Rattle.std.proofs.lemmas.List.{append-nil}
use Rattle.command_texts.specs.Lines.{IsWritten, fault_line}
use Rattle.command_texts.proofs.LineLemmas.{is_written}
use Rattle.command_texts.proofs.lines.tell_fault_for.Goals as goal

pub returns-in-Ok-clause-lines : goal.returns-in-Ok-clause-lines
returns-in-Ok-clause-lines g c =
    let text = simp c.line-line.ensures at (c.in-Ok.ensures.ok) in (
      c.args.reason.now ++ 10 ∷ [],
      subst (IsWritten _ _ _) (c.as_bytes.ensures.value ∙ text)
          (is_written _ _ _ _ _ c.put_all.result c.put_all.ensures.failed
          c.put_all.ensures.ok c.put_all.ensures.err),
    )

pub returns-in-Err-clause-lines : goal.returns-in-Err-clause-lines
returns-in-Err-clause-lines g c = (
  [],
  subst (IsWritten _ _ _) (sym (append-nil (fault_line c.args.fault)))
      c.tell_fault.ensures.line,
)
