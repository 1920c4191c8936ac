use Rattle.stored_tables.proofs.Covering.{covers_unmarked}
use Rattle.stored_tables.proofs.Marks.{has_mark, releases}
use Rattle.stored_tables.proofs.TablesLeave.{tables_or_over}
use Rattle.stored_tables.proofs.batch.BatchTables.release_mark.Goals as goal

pub release_mark-done-requires : goal.release_mark-done-requires
release_mark-done-requires g c = has_mark g.T.LedgerTables.state c.args.self.now.tenant.0 c.args.self.now.tables.now c.requires.usable.0 c.requires.marked

pub returns : goal.returns
returns g c =
    tables_or_over g.T.LedgerTables.state _ c.args.self.now c.or_give_up.new.tables c.or_give_up.result _ c.release_mark-done.new.self _ _ c.release_mark-done.ensures.follows c.release_mark-done.ensures.ok c.or_give_up.ensures (λ x has. releases g.T.LedgerTables.state _ c.args.self.now.tables.now c.requires.usable.0 x c.release_mark-done.new.self c.release_mark-done.ensures.follows c.requires.marked has) (λ live. covers_unmarked _ _ _ (c.requires.usable.1 live))
