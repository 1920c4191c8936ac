use Rattle.std.proofs.Common.{rules, ◌∙◌}
use Rattle.stored_tables.proofs.Keeping.{learnt}
use Rattle.stored_tables.proofs.Numbers.{passed}
use Rattle.stored_tables.proofs.TablesLeave.{tables_looked_up}
use Rattle.stored_tables.proofs.batch.BatchTables.failed.Goals as goal

pub returns : goal.returns
returns g c =
    tables_looked_up g.T.LedgerTables.state _ c.args.self.now c.or_give_up.new.tables c.or_give_up.result c.has_failed-failed.new.self _ _ c.requires
    (learnt g.T.LedgerTables.state _ c.args.self.now.tables.now c.has_failed-failed.new.self _ _ _ (λ m trees x held told. told ∙ c.point_reads.ensures.failed _ m trees c.args.id held c.ranges.id.fits)
    (rw (passed c.args.self.now.tenant.0 (search rules)) at c.has_failed-failed.ensures))
    c.or_give_up.ensures
