use Rattle.std.proofs.Common.{filter, string_bytes, to_z-of_z, SFits, w64, rules}
use Rattle.sqlite_value.specs.Order.{column}
use Rattle.keyed_trees.specs.Kept.{state}
use Rattle.rows.specs.declared.all_rows.DirectoryRow.{DirectoryRow}
use Rattle.ledger_sql.specs.Schema.{ledger_schema}
use Rattle.ledger_sql.specs.TableRows.{directory_rows, is_int}
use Rattle.ledger_sql.specs.Values.{directory_values}
use Rattle.ledger_layout.proofs.FrameLemmas.{finds}
use Rattle.ledger_trees.proofs.FindLemmas.{picks_numbered}
use Rattle.ledger_trees.proofs.directory.find_by_number.Goals as goal

pub returns : goal.returns
returns g c =
    let old = state ledger_schema g.S.Store c.trees.inside.tables in
    let new = state ledger_schema g.S.Store c.find_at.new.self in
    let fits : SFits w64 c.args.number = search rules in
    rw (← c.trees.view_is) (finds (λ (row : DirectoryRow). directory_values row.number (string_bytes row.name) row.digest) (λ trees. filter (λ row. is_int c.args.number (column row 0)) (directory_rows trees)) old new c.row_of.result
    (λ clean. rw c.row_of.ensures (picks_numbered c.args.number old.now.trees c.in-Ok.found (simp to_z-of_z at (c.in-Ok.ensures.found clean))))
    c.in-Ok.ensures.reads.same c.in-Ok.ensures.reads.kept c.in-Ok.ensures.reads.follows)
