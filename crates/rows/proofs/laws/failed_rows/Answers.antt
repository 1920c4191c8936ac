use Rattle.std.proofs.Common.{refl}
use Rattle.rows.specs.Prescribed.{rows_for}
use Rattle.rows.specs.Changes.{with_failed_id}
use Rattle.rows.proofs.laws.failed_rows.Goals as goal

pub returns : goal.returns
unfolding rows_for with_failed_id
returns c m id = refl
