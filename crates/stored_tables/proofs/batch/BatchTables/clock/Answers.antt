use Rattle.stored_tables.proofs.TablesLeave.{tables_looked_up}
use Rattle.stored_tables.proofs.batch.BatchTables.clock.Goals as goal

pub returns : goal.returns
returns g c = tables_looked_up g.T.LedgerTables.state _ c.args.self.now c.or_give_up.new.tables c.or_give_up.result c.clock-clock.new.tables _ _ c.requires c.clock-clock.ensures c.or_give_up.ensures
