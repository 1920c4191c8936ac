use Rattle.std.proofs.Common.{take, IsTrue}
use Rattle.std.specs.List.{AllZip}
use Rattle.sqlite.specs.State.{HasCleanDisk, IsUnchanged}
use Rattle.ledger_sql.specs.Frames.{Follows}
use Rattle.openings.specs.Tables.{HasTables}
use Rattle.openings.specs.Whole.{IsReadFor}
use Rattle.openings.proofs.whole_rows.read_tenants.Given as goal

abbrev pub invariant-loop-row : goal.invariant-loop-row
invariant-loop-row g l = record {
  read : HasCleanDisk (g.T.LedgerTables.state l.tables)
      → HasTables l.version (g.T.LedgerTables.state l.fn.tables).now.schema
      → AllZip (IsReadFor l.version (g.T.LedgerTables.state l.fn.tables).now.trees) (take l.row-index l.directory)
      l.tenants.items;
  kept : HasCleanDisk (g.T.LedgerTables.state l.tables) → IsTrue (g.T.LedgerTables.state l.fn.tables).is_open
      → IsUnchanged (g.T.LedgerTables.state l.fn.tables) (g.T.LedgerTables.state l.tables);
  follows : Follows (g.T.LedgerTables.state l.fn.tables) (g.T.LedgerTables.state l.tables);
}
