use Rattle.std.proofs.Common.{refl, rules}
use Rattle.rows.specs.Cells.{balance_cells}
use Rattle.ledger_sql.specs.Schema.{balance_table}
use Rattle.ledger_sql.specs.Values.{balance_values}
use Rattle.ledger_sql.proofs.AddLemmas.{in_balances}
use Rattle.ledger_sql.proofs.InsertTexts.{inserting, row_writes, balance_taken}
use Rattle.ledger_sql.proofs.adding.add_balance.Goals as goal

pub returns : goal.returns
returns g c = rw c.done.ensures (row_writes _ 5 5 11 balance_table c.args.tenant (balance_values (balance_cells c.args.row.now)) refl (balance_taken c.args.tenant (balance_cells c.args.row.now)) _ (search rules) _ _ (in_balances inserting.balance _ c.requires) c.execute.ensures.survives c.execute.result c.execute.ensures.runs)
