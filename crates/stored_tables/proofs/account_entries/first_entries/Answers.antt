use Rattle.std.proofs.Common.{rules}
use Rattle.records.specs.declared.filter.Order.TheVariants.{Oldest, Newest}
use Rattle.sqlite.specs.State.{HasCleanDisk}
use Rattle.stored_tables.proofs.AccountEntries.{handed}
use Rattle.stored_tables.proofs.Numbers.{passed}
use Rattle.stored_tables.proofs.account_entries.first_entries.Goals as goal

pub returns-in-Oldest-clause-handed : goal.returns-in-Oldest-clause-handed
returns-in-Oldest-clause-handed g c =
    handed c.args.tenant.0 (g.T.LedgerTables.state c.args.tables.now) c.read_in_order.ensures.ascending c.rows_fit.ensures c.columns_keep_order.ensures.one_to_one c.rows_stand_in_order.ensures.transfers c.args.account c.ranges.account.fits c.args.bound
    g.K.EntrySink.takes g.K.EntrySink.is_full (HasCleanDisk (g.T.LedgerTables.state c.first_entries_from.new.self)) c.args.count c.args.sink.now c.first_entries_from.new.sink c.first_entries_from.result c.args.order Oldest c.in-Oldest.is
    (rw (passed c.args.tenant.0 (search rules), passed c.args.bound (search rules)) at c.first_entries_from.ensures.handed)

pub returns-in-Newest-clause-handed : goal.returns-in-Newest-clause-handed
returns-in-Newest-clause-handed g c =
    handed c.args.tenant.0 (g.T.LedgerTables.state c.args.tables.now) c.read_in_order.ensures.ascending c.rows_fit.ensures c.columns_keep_order.ensures.one_to_one c.rows_stand_in_order.ensures.transfers c.args.account c.ranges.account.fits c.args.bound
    g.K.EntrySink.takes g.K.EntrySink.is_full (HasCleanDisk (g.T.LedgerTables.state c.first_entries_until.new.self)) c.args.count c.args.sink.now c.first_entries_until.new.sink c.first_entries_until.result c.args.order Newest c.in-Newest.is
    (rw (passed c.args.tenant.0 (search rules), passed c.args.bound (search rules)) at c.first_entries_until.ensures.handed)
