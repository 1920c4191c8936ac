use Rattle.stored_tables.proofs.Covering.{covers_marking}
use Rattle.stored_tables.proofs.Marks.{inside, marks}
use Rattle.stored_tables.proofs.TablesLeave.{tables_or_over}
use Rattle.stored_tables.proofs.batch.BatchTables.mark.Goals as goal

pub mark-done-requires : goal.mark-done-requires
mark-done-requires g c = inside g.T.LedgerTables.state c.args.self.now.tenant.0 c.args.self.now.tables.now c.requires.usable.0

pub returns : goal.returns
returns g c =
    tables_or_over g.T.LedgerTables.state _ c.args.self.now c.or_give_up.new.tables c.or_give_up.result _ c.mark-done.new.self _ _ c.mark-done.ensures.follows c.mark-done.ensures.ok c.or_give_up.ensures (λ x has. marks g.T.LedgerTables.state _ c.args.self.now.tables.now c.requires.usable.0 x c.mark-done.new.self c.mark-done.ensures.follows c.requires.unmarked has) (λ live. covers_marking _ _ _ (c.requires.usable.1 live))
