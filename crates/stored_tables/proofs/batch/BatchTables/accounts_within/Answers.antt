use Rattle.stored_tables.proofs.TablesLeave.{tables_looked_up}
use Rattle.stored_tables.proofs.batch.BatchTables.accounts_within.Goals as goal

pub accounts-found-requires : goal.accounts-found-requires
accounts-found-requires g c clean = (c.requires.0 clean).is_open

pub returns : goal.returns
returns g c = tables_looked_up g.T.LedgerTables.state _ c.args.self.now c.or_give_up.new.tables c.or_give_up.result c.accounts-found.new.tables _ _ c.requires c.accounts-found.ensures c.or_give_up.ensures
