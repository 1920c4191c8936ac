use Rattle.stored_tables.proofs.Covering.{covers_account}
use Rattle.stored_tables.proofs.TablesLeave.{tables_left}
use Rattle.stored_tables.proofs.batch.BatchTables.accept_account.Goals as goal

pub returns : goal.returns
returns g c = tables_left g.T.LedgerTables.state _ c.args.self.now c.accept_account.new.tables c.accept_account.result _ c.accept_account.ensures (λ live. covers_account _ _ _ (c.requires.usable.1 live) c.args.account.now)
