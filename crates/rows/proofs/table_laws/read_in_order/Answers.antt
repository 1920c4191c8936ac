use Rattle.rows.proofs.SortedReads.{sorted_once, ascending_once}
use Rattle.rows.proofs.table_laws.read_in_order.Goals as goal

pub returns : goal.returns
returns g c = record { sorted = sorted_once; ascending = ascending_once }
