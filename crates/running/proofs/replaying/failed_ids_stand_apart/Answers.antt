use Rattle.running.proofs.ReplaysOfValid.{failed_apart}
use Rattle.running.proofs.replaying.failed_ids_stand_apart.Goals as goal

pub returns : goal.returns
returns c = failed_apart c.valid_exactly_entry_by_entry.ensures
