use Rattle.rows.proofs.SameChanges.{same_opened, same_accepted, same_expired, same_failed, same_then}
use Rattle.rows.proofs.table_laws.changes_keep_same_rows.Goals as goal

pub returns : goal.returns
returns c = record { opened = same_opened; accepted = same_accepted; expired = same_expired; failed = same_failed; then = same_then }
