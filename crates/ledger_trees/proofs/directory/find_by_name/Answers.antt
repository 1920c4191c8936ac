use Rattle.std.proofs.Common.{string_bytes}
use Rattle.keyed_trees.specs.Kept.{state}
use Rattle.rows.specs.declared.all_rows.DirectoryRow.{DirectoryRow}
use Rattle.ledger_sql.specs.Schema.{ledger_schema}
use Rattle.ledger_sql.specs.TableRows.{directory_rows, with_name}
use Rattle.ledger_sql.specs.Values.{directory_values}
use Rattle.ledger_layout.proofs.FrameLemmas.{finds, when_ok}
use Rattle.ledger_trees.proofs.FindLemmas.{picks_named}
use Rattle.ledger_trees.proofs.directory.find_by_name.Goals as goal

pub returns : goal.returns
returns g c =
    let old = state ledger_schema g.S.Store c.trees.inside.tables in
    let new = state ledger_schema g.S.Store c.find.new.self in
    let key = when_ok c.write_name_key.result c.if-is_err.ensures.value c.write_name_key.ensures in
    rw (← c.trees.view_is) (finds (λ (row : DirectoryRow). directory_values row.number (string_bytes row.name) row.digest) (λ trees. with_name c.args.name.now (directory_rows trees)) old new c.row_of.result
    (λ clean. rw c.row_of.ensures (picks_named c.args.name.now old.now.trees c.in-Ok.found (rw key at (c.in-Ok.ensures.found clean))))
    c.in-Ok.ensures.reads.same c.in-Ok.ensures.reads.kept c.in-Ok.ensures.reads.follows)
