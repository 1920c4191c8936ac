use Rattle.amount.proofs.Columns.{slice_cmp-column_of, column_of-injective}
use Rattle.amount.proofs.column.columns_keep_order.Goals as goal

pub returns : goal.returns
returns c = record { order = slice_cmp-column_of; one_to_one = column_of-injective }
