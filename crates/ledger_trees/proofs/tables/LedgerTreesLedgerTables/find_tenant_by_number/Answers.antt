use Rattle.std.proofs.Common.{filter, string_bytes, subst, to_z-of_z, SFits, w64, rules, ℤ}
use Rattle.sqlite_value.specs.Order.{column}
use Rattle.keyed_trees.specs.Kept.{state}
use Rattle.rows.specs.declared.all_rows.DirectoryRow.{DirectoryRow}
use Rattle.ledger_sql.specs.Calls.{AnyWidth}
use Rattle.ledger_sql.specs.Schema.{ledger_schema}
use Rattle.ledger_sql.specs.TableRows.{directory_rows, is_int}
use Rattle.ledger_sql.specs.Values.{directory_values}
use Rattle.ledger_tables.specs.Calls.{LeavesRowFound}
use Rattle.ledger_trees.proofs.tables.LedgerTreesLedgerTables.find_tenant_by_number.Goals as goal

pub returns : goal.returns
returns g c =
    let old = state ledger_schema g.S.Store c.args.self.now in
    let new = state ledger_schema g.S.Store c.find_by_number.new.trees in
    let fits : SFits w64 c.args.number = search rules in
    subst (λ (n : ℤ). LeavesRowFound AnyWidth (λ (row : DirectoryRow). directory_values row.number (string_bytes row.name) row.digest) (λ trees. filter (λ row. is_int n (column row 0)) (directory_rows trees)) old new c.find_by_number.result)
    (to_z-of_z fits) c.find_by_number.ensures
