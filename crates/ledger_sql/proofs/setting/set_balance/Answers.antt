use Rattle.std.proofs.Common.{refl, rules}
use Rattle.rows.specs.Cells.{balance_cells}
use Rattle.ledger_sql.specs.Schema.{balance_table}
use Rattle.ledger_sql.specs.Values.{balance_values}
use Rattle.ledger_sql.proofs.InsertTexts.{balance_taken}
use Rattle.ledger_sql.proofs.UpdateTexts.{setting, row_set}
use Rattle.ledger_sql.proofs.setting.set_balance.Goals as goal

pub returns : goal.returns
returns g c =
    let row = balance_cells c.args.row.now in
    rw c.done.ensures (row_set _ 5 4 11 balance_table setting.balance refl c.args.tenant row.account (balance_values row) refl (λ r. refl) (balance_taken c.args.tenant row) _ (search rules) _ _ c.requires c.execute.ensures.survives c.execute.result c.execute.ensures.runs)
