use Rattle.stored_tables.proofs.Covering.{covers_failed}
use Rattle.stored_tables.proofs.TablesLeave.{tables_left}
use Rattle.stored_tables.proofs.batch.BatchTables.record_failed.Goals as goal

pub returns : goal.returns
returns g c = tables_left g.T.LedgerTables.state _ c.args.self.now c.record_failed.new.tables c.record_failed.result _ c.record_failed.ensures (λ live. covers_failed _ _ _ (c.requires.usable.1 live) c.args.id)
