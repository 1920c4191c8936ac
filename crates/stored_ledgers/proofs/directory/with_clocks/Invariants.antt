use Rattle.std.proofs.Common.{take}
use Rattle.sqlite.specs.State.{HasCleanDisk, IsUnchanged}
use Rattle.ledger_sql.specs.Frames.{Follows}
use Rattle.stored_ledgers.specs.Listing.{AreThose}
use Rattle.stored_ledgers.proofs.directory.with_clocks.Given as goal

abbrev pub invariant-loop-row : goal.invariant-loop-row
invariant-loop-row g l = record {
  told : HasCleanDisk (g.T.LedgerTables.state l.tables)
      → AreThose (g.T.LedgerTables.state l.fn.tables).now.trees (take l.row-index l.rows) l.tenants.items;
  kept : HasCleanDisk (g.T.LedgerTables.state l.tables)
      → IsUnchanged (g.T.LedgerTables.state l.fn.tables) (g.T.LedgerTables.state l.tables);
  follows : Follows (g.T.LedgerTables.state l.fn.tables) (g.T.LedgerTables.state l.tables);
}
