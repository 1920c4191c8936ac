use Rattle.std.proofs.Common.{rules}
use Rattle.stored_tables.proofs.AcceptedRows.{account_written}
use Rattle.stored_tables.proofs.Keeping.{changes_twice}
use Rattle.stored_tables.proofs.Numbers.{passed}
use Rattle.stored_tables.proofs.entries.write_account.Goals as goal

pub returns : goal.returns
returns g c =
    changes_twice g.T.LedgerTables.state c.args.tables.now c.add_account.new.self c.add_balance.new.self c.add_balance.result _ _ c.requires.inside c.add_account.ensures.follows c.add_balance.ensures.follows
    (λ inside first both.
    account_written c.args.tenant.0 c.args.account.now _ _ _ c.add_balance.result inside (rw (passed c.args.tenant.0 (search rules)) at (c.in_ok-add_account.ensures.ok first))
    (rw (passed c.args.tenant.0 (search rules)) at (c.add_balance.ensures.ok both)))
