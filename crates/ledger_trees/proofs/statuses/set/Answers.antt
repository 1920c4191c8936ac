use Rattle.ledger_trees.proofs.FitLemmas.{status_fits}
use Rattle.ledger_trees.proofs.statuses.set.Goals as goal

pub set_row-requires : goal.set_row-requires
set_row-requires g c = status_fits c.law_ledger_rows_fit.ensures _ c.args.row.now _ c.from_row.ensures
