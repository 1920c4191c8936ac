use Rattle.std.proofs.Common.{◌≡◌, false, rules}
use Rattle.records.specs.Machine.{has_id, with_failed}
use Rattle.records.specs.Valid.IsValid.{next_failed}
use Rattle.rows.specs.Changes.{with_failed_id}
use Rattle.rows.specs.Prescribed.{rows_for}
use Rattle.stored_tables.specs.BatchLaws.{clean_before}
use Rattle.stored_tables.proofs.AcceptedRows.{failed_written}
use Rattle.stored_tables.proofs.Keeping.{leaves_or_over}
use Rattle.stored_tables.proofs.Numbers.{passed}
use Rattle.stored_tables.proofs.Writing.{writes_leave, is_inside}
use Rattle.stored_tables.proofs.accepting.record_failed.Goals as goal

pub add_failed-done-requires : goal.add_failed-done-requires
add_failed-done-requires g c clean = is_inside _ _ (c.requires.usable clean)

pub returns : goal.returns
unfolding rows_for
returns g c =
    let t = c.args.tenant.0 in
    let id = c.args.id in
    let s0 = g.T.LedgerTables.state c.args.tables.now in
    let s1 = g.T.LedgerTables.state c.add_failed-done.new.self in
    leaves_or_over g.T.LedgerTables.state _ c.args.tables.now c.add_failed-done.new.self _ _ _ _ _ c.add_failed-done.ensures.follows c.add_failed-done.ensures.ok c.or_give_up.ensures
    (λ x added.
    writes_leave g.T.LedgerTables.state t c.args.tables.now c.add_failed-done.new.self x (λ rows. has_id id rows.failed ≡ false) (with_failed_id id) (λ m. with_failed m id) c.held_machines.ensures c.requires.usable c.add_failed-done.ensures.follows
    (λ clean.
    let clean0 = clean_before _ _ c.add_failed-done.ensures.follows clean in
    failed_written c.changes_keep_same_rows.ensures.failed t id s0 s1 (is_inside t s0 (c.requires.usable clean0)) (rw (passed t (search rules)) at (added clean)))
    (λ live valid. let fails = c.requires.so live in record { may = fails.unrecorded; rows = c.failed_rows.ensures _ id; valid = next_failed _ id valid fails.next }))
