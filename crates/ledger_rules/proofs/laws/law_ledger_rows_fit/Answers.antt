use Rattle.ledger_rules.proofs.FittingRows.{rows_fit}
use Rattle.ledger_rules.proofs.laws.law_ledger_rows_fit.Goals as goal

pub returns : goal.returns
returns c = rows_fit
