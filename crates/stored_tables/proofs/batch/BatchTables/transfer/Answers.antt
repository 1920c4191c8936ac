use Rattle.std.proofs.Common.{rules}
use Rattle.stored_tables.proofs.Keeping.{found}
use Rattle.stored_tables.proofs.Numbers.{passed}
use Rattle.stored_tables.proofs.TablesLeave.{tables_looked_up}
use Rattle.stored_tables.proofs.batch.BatchTables.transfer.Goals as goal

pub returns : goal.returns
returns g c =
    tables_looked_up g.T.LedgerTables.state _ c.args.self.now c.or_give_up.new.tables c.or_give_up.result c.find_transfer-found.new.self _ _ c.requires
    (found g.T.LedgerTables.state _ c.args.self.now.tables.now c.find_transfer-found.new.self _ _ _ _ (λ m trees x held. c.point_reads.ensures.transfer _ m trees c.args.id x held c.ranges.id.fits)
    (rw (passed c.args.self.now.tenant.0 (search rules)) at c.find_transfer-found.ensures))
    c.or_give_up.ensures
