use Rattle.stored_tables.proofs.TablesLeave.{tables_looked_up}
use Rattle.stored_tables.proofs.batch.BatchTables.account_entries.Goals as goal

pub returns : goal.returns
returns g c = tables_looked_up g.T.LedgerTables.state _ c.args.self.now c.or_give_up.new.tables c.or_give_up.result c.account_entries-found.new.tables _ _ c.requires c.account_entries-found.ensures c.or_give_up.ensures
