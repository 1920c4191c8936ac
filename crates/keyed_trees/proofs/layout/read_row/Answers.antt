use Rattle.std.proofs.Common.{rules, sym, ◌∙◌, SFits, w64, to_z-of_z}
use Rattle.keyed_trees.proofs.ReadLemmas.{row_is}
use Rattle.keyed_trees.proofs.layout.read_row.Goals as goal

pub returns-clause-values : goal.returns-clause-values
returns-clause-values g c =
    let fits : SFits w64 c.in-Some.id = search rules in
    let it = row_is c.args.row.now (g.R.Record.cells c.in_ok-read_columns.field-0) c.in-Some.id (sym c.rowid_at.ensures ∙ c.in-Some.is) c.in_ok-read_columns.ensures.values in
    simp to_z-of_z it
