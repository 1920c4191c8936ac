use Rattle.std.proofs.Common.{rules}
use Rattle.stored_tables.proofs.Covering.{covers_at_mark}
use Rattle.stored_tables.proofs.Keeping.{leaves_or_over}
use Rattle.stored_tables.proofs.Marks.{GoesBack, has_mark, goes_back, releases, back_failed, back_usable, back_marked, back_closed}
use Rattle.stored_tables.proofs.TablesLeave.{tables_left}
use Rattle.stored_tables.proofs.batch.BatchTables.back_to_mark.Goals.{After-or_give_up}
use Rattle.stored_tables.proofs.batch.BatchTables.back_to_mark.Goals as goal

pub back_to_mark-undone-requires : goal.back_to_mark-undone-requires
back_to_mark-undone-requires g c = has_mark g.T.LedgerTables.state c.args.self.now.tenant.0 c.args.self.now.tables.now c.requires.usable.0 c.requires.marked

-- the first step goes back to the mark
back : (g : _) (c : After-or_give_up g) → GoesBack g.T.LedgerTables.state c.args.self.now.tenant.0 c.args.self.now.tables.now c.or_give_up.new.tables c.or_give_up.result
back g c =
    let tables = c.args.self.now.tables.now in
    leaves_or_over g.T.LedgerTables.state _ tables c.back_to_mark-undone.new.self _ _ _ _ _ c.back_to_mark-undone.ensures.follows c.back_to_mark-undone.ensures.ok c.or_give_up.ensures
    (λ x has. goes_back g.T.LedgerTables.state _ tables c.requires.usable.0 x c.back_to_mark-undone.new.self c.back_to_mark-undone.ensures.follows c.requires.marked has)

pub returns-in_err-or_give_up : goal.returns-in_err-or_give_up
returns-in_err-or_give_up g c =
    tables_left g.T.LedgerTables.state _ c.args.self.now c.or_give_up.new.tables _ _
    (back_failed g.T.LedgerTables.state _ _ _ _ (back g (goal.at.returns-in_err-or_give_up g c).After-or_give_up) c.in_err-or_give_up.field-0.0 _ (search rules) (search rules))
    (λ live. covers_at_mark _ _ _ (c.requires.usable.1 live))

pub release_mark-closed-requires : goal.release_mark-closed-requires
release_mark-closed-requires g c =
    let went = back g (goal.at.release_mark-closed-requires g c).After-or_give_up in
    has_mark g.T.LedgerTables.state c.args.self.now.tenant.0 c.or_give_up.new.tables (back_usable g.T.LedgerTables.state _ _ _ _ went tt (search rules)) (back_marked g.T.LedgerTables.state _ _ _ _ went tt (search rules) c.requires.marked)

pub returns : goal.returns
returns g c =
    let went = back g (goal.at.returns g c).After-or_give_up in
    let mid = c.or_give_up.new.tables in
    let usable = back_usable g.T.LedgerTables.state _ _ mid _ went tt (search rules) in
    let marked = back_marked g.T.LedgerTables.state _ _ mid _ went tt (search rules) c.requires.marked in
    tables_left g.T.LedgerTables.state _ c.args.self.now c.or_give_up-2.new.tables c.or_give_up-2.result _
    (back_closed g.T.LedgerTables.state _ _ _ _ went tt (search rules) c.or_give_up-2.new.tables c.or_give_up-2.result
    (leaves_or_over g.T.LedgerTables.state _ mid c.release_mark-closed.new.self _ _ _ _ _ c.release_mark-closed.ensures.follows c.release_mark-closed.ensures.ok c.or_give_up-2.ensures
    (λ x has. releases g.T.LedgerTables.state _ mid usable x c.release_mark-closed.new.self c.release_mark-closed.ensures.follows marked has)))
    (λ live. covers_at_mark _ _ _ (c.requires.usable.1 live))
