use Rattle.std.proofs.Common.{rules}
use Rattle.std.proofs.lemmas.Result.{on_ok_weaker}
use Rattle.stored_tables.proofs.Keeping.{changes}
use Rattle.stored_tables.proofs.Numbers.{passed}
use Rattle.stored_tables.proofs.Statements.{balance_set}
use Rattle.stored_tables.proofs.changing.set_balances.Goals as goal

pub returns : goal.returns
returns g c =
    changes g.T.LedgerTables.state c.args.tables.now c.set_balance.new.self c.set_balance.result _ _ c.requires c.set_balance.ensures.follows
    (λ inside clean.
    on_ok_weaker c.set_balance.result (balance_set c.args.tenant.0 _ _ inside.schema c.columns_keep_order.ensures.one_to_one c.found_by_key.ensures.alone c.found_by_key.ensures.replaced (record { account = c.args.account; balances = c.args.balances }))
    (rw (passed c.args.tenant.0 (search rules)) at (c.set_balance.ensures.ok clean)))
