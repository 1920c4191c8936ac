use Rattle.ledger_trees.proofs.FitLemmas.{balance_fits}
use Rattle.ledger_trees.proofs.balances.add.Goals as goal

pub add_row-requires : goal.add_row-requires
add_row-requires g c = balance_fits c.law_ledger_rows_fit.ensures _ c.args.row.now _ c.from_row.ensures
