use Rattle.std.proofs.Common.{to_z-of_z, SFits, w64, rules}
use Rattle.amount.specs.Column.{column_of}
use Rattle.ledger_sql.specs.TableRows.{failed_rows, has_id}
use Rattle.ledger_sql.specs.Values.{id_values}
use Rattle.ledger_layout.specs.declared.kinds.FailedCells.{FailedCells}
use Rattle.ledger_trees.proofs.RowLemmas.{any_found}
use Rattle.ledger_trees.proofs.failed_ids.contains.Goals as goal

pub returns : goal.returns
returns g c =
    let fits : SFits w64 c.args.tenant = search rules in
    rw c.is_some.ensures (record {
      ok = λ clean ledger.
          any_found (λ (row : FailedCells). id_values row.id) (has_id (column_of c.args.id)) (failed_rows c.args.tenant (g.S.Store.view c.args.trees.now.store).trees)
          c.in_ok-find_row.field-0 (simp to_z-of_z at (c.in_ok-find_row.ensures.ok clean ledger));
      reads = record { same = c.in_ok-find_row.ensures.reads.same; kept = c.in_ok-find_row.ensures.reads.kept; follows = c.in_ok-find_row.ensures.reads.follows };
    })
