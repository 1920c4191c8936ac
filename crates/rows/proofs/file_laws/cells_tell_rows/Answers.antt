use Rattle.rows.proofs.OneToOne.{rows_one}
use Rattle.rows.proofs.file_laws.cells_tell_rows.Goals as goal

pub returns : goal.returns
returns c = rows_one c.columns_keep_order.ensures.one_to_one
