use Rattle.rows.proofs.Fits.{rows_fit}
use Rattle.rows.proofs.file_laws.rows_fit.Goals as goal

pub returns : goal.returns
returns c = rows_fit
