use Rattle.records.specs.Valid.{with_account}
use Rattle.records.specs.Valid.IsValid.{next_account}
use Rattle.rows.specs.Changes.{with_opened}
use Rattle.stored_tables.specs.Moves.{Any}
use Rattle.stored_tables.proofs.Keeping.{leaves_or_over}
use Rattle.stored_tables.proofs.Writing.{writes_leave, is_inside}
use Rattle.stored_tables.proofs.accepting.accept_account.Goals as goal

pub write_account-done-requires : goal.write_account-done-requires
write_account-done-requires g c = record { inside = λ clean. is_inside _ _ (c.requires.may.usable clean); bounded = c.requires.bounded }

pub returns : goal.returns
returns g c =
    let a = c.args.account.now in
    leaves_or_over g.T.LedgerTables.state _ c.args.tables.now c.write_account-done.new.tables _ _ _ _ _ c.write_account-done.ensures.follows c.write_account-done.ensures.ok c.or_give_up.ensures
    (λ x written.
    writes_leave g.T.LedgerTables.state c.args.tenant.0 c.args.tables.now c.write_account-done.new.tables x Any (with_opened a) (λ m. with_account m a) c.held_machines.ensures c.requires.may.usable c.write_account-done.ensures.follows written
    (λ live valid. let next = c.requires.may.so live in record { may = tt; rows = c.account_rows.ensures _ a valid next; valid = next_account _ a valid next }))
