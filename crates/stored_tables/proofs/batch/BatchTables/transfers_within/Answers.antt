use Rattle.stored_tables.proofs.TablesLeave.{tables_looked_up}
use Rattle.stored_tables.proofs.batch.BatchTables.transfers_within.Goals as goal

pub transfers-found-requires : goal.transfers-found-requires
transfers-found-requires g c clean = (c.requires.0 clean).is_open

pub returns : goal.returns
returns g c = tables_looked_up g.T.LedgerTables.state _ c.args.self.now c.or_give_up.new.tables c.or_give_up.result c.transfers-found.new.tables _ _ c.requires c.transfers-found.ensures c.or_give_up.ensures
