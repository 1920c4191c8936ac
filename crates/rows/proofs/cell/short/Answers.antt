use Rattle.std.proofs.Common.{rules, sym}
use Rattle.std.proofs.lemmas.Nat.{be_bytes_8}
use Rattle.rows.specs.Cells.{short_column_of}
use Rattle.rows.proofs.cell.short.Goals as goal

pub returns-clause-column : goal.returns-clause-column
unfolding short_column_of
returns-clause-column c = sym (be_bytes_8 c.args.column _ (search rules) (search rules) c.from_be_bytes.ensures)
