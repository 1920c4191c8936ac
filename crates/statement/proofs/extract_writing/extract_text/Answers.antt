use Rattle.statement.specs.Extract.{closing_of, opening_of}
use Rattle.statement.proofs.WrittenLines.{parts_are}
use Rattle.std.proofs.Common.{◌∙◌, ap}
use Rattle.statement.specs.Lines.{closing_line, opening_line}
use Rattle.statement.proofs.extract_writing.extract_text.Goals as goal

pub returns : goal.returns
returns c =
    parts_are c.args.layout (opening_of c.args.extract.now) (closing_of c.args.extract.now) _ _ _ _ _ _ _ _ _ _ c.new-out.ensures.items c.in_ok-put_names.ensures
    (c.opening-first.ensures ∙ ap opening_line c.opening-before.ensures) c.in_ok-put_sums.ensures c.rows.ensures c.in_ok-put_entries.ensures
    (c.closing-last.ensures ∙ ap closing_line c.closing-behind.ensures) c.in_ok-put_sums-2.ensures
