use Rattle.running.proofs.ReplaysOfValid.{replays_of_valid}
use Rattle.running.proofs.replaying.valid_replays.Goals as goal

pub returns : goal.returns
returns c = replays_of_valid c.valid_exactly_entry_by_entry.ensures c.read_in_order.ensures.ascending
