use Rattle.std.proofs.Common.{refl, rules}
use Rattle.rows.specs.Cells.{account_cells}
use Rattle.ledger_sql.specs.Schema.{account_table}
use Rattle.ledger_sql.specs.Values.{account_values}
use Rattle.ledger_sql.proofs.AddLemmas.{in_ledger}
use Rattle.ledger_sql.proofs.InsertTexts.{inserting, row_writes, account_taken}
use Rattle.ledger_sql.proofs.adding.add_account.Goals as goal

pub returns : goal.returns
returns g c = rw c.done.ensures (row_writes _ 3 8 5 account_table c.args.tenant (account_values (account_cells c.args.account.now)) refl (account_taken c.args.tenant (account_cells c.args.account.now)) _ (search rules) _ _ (in_ledger inserting.account _ c.requires.inside) c.execute.ensures.survives c.execute.result c.execute.ensures.runs)
