use Rattle.stored_tables.proofs.ChangedRows.{both_set}
use Rattle.stored_tables.proofs.Keeping.{changes_twice}
use Rattle.stored_tables.proofs.changing.set_both.Goals as goal

pub returns : goal.returns
returns g c =
    changes_twice g.T.LedgerTables.state c.args.tables.now c.set_balances.new.tables c.set_balances-2.new.tables c.set_balances-2.result _ _ c.requires c.set_balances.ensures.follows c.set_balances-2.ensures.follows
    (λ inside first both. both_set c.args.tenant.0 c.args.transfer.now c.args.debit c.args.credit _ _ _ c.set_balances-2.result (c.in_ok-set_balances.ensures.ok first) (c.set_balances-2.ensures.ok both))
