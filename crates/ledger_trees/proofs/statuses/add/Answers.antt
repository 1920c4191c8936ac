use Rattle.ledger_trees.proofs.FitLemmas.{status_fits}
use Rattle.ledger_trees.proofs.statuses.add.Goals as goal

pub add_row-requires : goal.add_row-requires
add_row-requires g c = status_fits c.law_ledger_rows_fit.ensures _ c.args.row.now _ c.from_row.ensures
