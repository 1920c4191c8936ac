use Rattle.std.proofs.Common.{refl, rules}
use Rattle.ledger_sql.specs.Schema.{balance_table}
use Rattle.ledger_sql.specs.Values.{balance_values}
use Rattle.ledger_sql.proofs.AddLemmas.{in_making}
use Rattle.ledger_sql.proofs.InsertTexts.{inserting, row_writes, balance_taken}
use Rattle.ledger_sql.proofs.upgrading.fill_balance.Goals as goal

pub returns : goal.returns
returns g c = rw c.done.ensures (row_writes _ 5 5 11 balance_table c.args.tenant (balance_values c.args.cells.now) refl (balance_taken c.args.tenant c.args.cells.now) _ (search rules) _ _ (in_making inserting.balance _ c.requires) c.execute.ensures.survives c.execute.result c.execute.ensures.runs)
