use Rattle.audit.proofs.PassedRows.{passes}
use Rattle.audit.proofs.law.sound_rows_pass.Goals as goal

pub returns : goal.returns
returns c = passes c.known_laws.ensures
