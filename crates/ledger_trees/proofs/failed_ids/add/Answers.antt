use Rattle.ledger_trees.proofs.FitLemmas.{failed_fits}
use Rattle.ledger_trees.proofs.failed_ids.add.Goals as goal

pub add_row-requires : goal.add_row-requires
add_row-requires g c = failed_fits c.law_ledger_rows_fit.ensures _ c.new.result _ c.to_column-id.ensures
