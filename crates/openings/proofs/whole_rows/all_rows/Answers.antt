use Rattle.openings.proofs.WholeLemmas.{can_be_read}
use Rattle.openings.proofs.whole_rows.all_rows.Goals as goal

pub rows_in-requires : goal.rows_in-requires
rows_in-requires g c = can_be_read c.args.version _ c.requires
