use Rattle.std.proofs.Common.{refl, rules}
use Rattle.rows.specs.Cells.{status_cells}
use Rattle.ledger_sql.specs.Schema.{status_table}
use Rattle.ledger_sql.specs.Values.{status_values}
use Rattle.ledger_sql.proofs.InsertTexts.{status_taken}
use Rattle.ledger_sql.proofs.UpdateTexts.{setting, row_set}
use Rattle.ledger_sql.proofs.setting.set_status.Goals as goal

pub returns : goal.returns
returns g c =
    let row = status_cells c.args.row.now in
    rw c.done.ensures (row_set _ 6 2 13 status_table setting.status refl c.args.tenant row.transfer (status_values row) refl (λ r. refl) (status_taken c.args.tenant row) _ (search rules) _ _ c.requires.inside c.execute.ensures.survives c.execute.result c.execute.ensures.runs)
