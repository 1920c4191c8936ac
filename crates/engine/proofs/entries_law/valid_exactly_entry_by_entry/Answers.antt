use Rattle.engine.proofs.EntriesOfValid.{given}
use Rattle.engine.proofs.ValidFromEntries.{valid}
use Rattle.engine.proofs.entries_law.valid_exactly_entry_by_entry.Goals as goal

pub returns : goal.returns
returns c m = (given m, valid m)
