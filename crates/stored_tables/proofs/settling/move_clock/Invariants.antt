use Rattle.std.proofs.Common.{map}
use Rattle.std.specs.Map.Iter.{deref}
use Rattle.sqlite.specs.State.{HasCleanDisk}
use Rattle.ledger_sql.specs.Frames.{Follows}
use Rattle.stored_tables.specs.Kept.{kept_in}
use Rattle.stored_tables.proofs.ReleasedAll.{ReleasesSeen}
use Rattle.stored_tables.proofs.settling.move_clock.Given as goal

-- what the loop keeps: of the keys that were seen no transfer is left, once what is kept is written
abbrev pub invariant-loop-entry : goal.invariant-loop-entry
invariant-loop-entry g l =
    (goal.iterator-loop-entry g).can_next l.entry-iterator
    × (goal.iterator-loop-entry g).is_finite l.entry-iterator
    × (HasCleanDisk (g.T.LedgerTables.state l.tables) → ReleasesSeen l.tenant.0 l.clock (kept_in l.kept.items) (map deref l.yielded) (g.T.LedgerTables.state l.fn.tables) (g.T.LedgerTables.state l.tables))
    × Follows (g.T.LedgerTables.state l.fn.tables) (g.T.LedgerTables.state l.tables)
