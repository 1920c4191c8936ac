use Rattle.arrayvec.specs.ArrayVec.{array_vec_len}
use Rattle.sqlite.specs.State.{HasCleanDisk}
use Rattle.ledger_sql.specs.Frames.{Follows}
use Rattle.stored_tables.specs.Kept.{kept_in, Flushes}
use Rattle.stored_tables.proofs.flushing.flush.Given as goal

-- what the loop keeps: the tenant's rows with what is kept are what they were
abbrev pub invariant-loop-row : goal.invariant-loop-row
invariant-loop-row g l =
    (HasCleanDisk (g.T.LedgerTables.state l.tables) → Flushes l.tenant.0 (kept_in l.fn.kept.items) (kept_in l.kept.items) (g.T.LedgerTables.state l.fn.tables) (g.T.LedgerTables.state l.tables))
    × Follows (g.T.LedgerTables.state l.fn.tables) (g.T.LedgerTables.state l.tables)

abbrev pub decreases-loop-row : goal.decreases-loop-row
decreases-loop-row g l = array_vec_len l.kept
