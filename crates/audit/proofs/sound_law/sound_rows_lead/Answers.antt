use Rattle.audit.proofs.NewerRows.{are_read, times_own, lead, theirs, still_valid}
use Rattle.audit.proofs.sound_law.sound_rows_lead.Goals as goal

pub returns : goal.returns
returns c =
    let laws = c.known_laws.ensures in
    record {
      read = are_read laws;
      times = times_own laws;
      lead = lead laws;
      derived = theirs laws;
      valid = still_valid c.failed_ids_stand_apart.ensures;
    }
