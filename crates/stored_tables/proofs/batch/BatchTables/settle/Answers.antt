use Rattle.std.proofs.Common.{◌≡◌, refl}
use Rattle.sqlite.specs.State.{HasCleanDisk}
use Rattle.records.specs.Step.{at_clock}
use Rattle.records.specs.Valid.IsValid.{later}
use Rattle.rows.specs.Prescribed.{rows_for}
use Rattle.ledger_sql.specs.Frames.{Live}
use Rattle.stored_tables.specs.BatchLaws.{clean_before, valid_now}
use Rattle.stored_tables.specs.InBatch.{shown}
use Rattle.stored_tables.proofs.Covering.{covers_clock}
use Rattle.stored_tables.proofs.TablesLeave.{tables_or_over}
use Rattle.stored_tables.proofs.Writing.{writes_leave, is_inside}
use Rattle.stored_tables.proofs.batch.BatchTables.settle.Goals as goal

pub move_clock-done-requires : goal.move_clock-done-requires
move_clock-done-requires g c = record { writing = λ clean. record { inside = is_inside _ _ (c.requires.usable.0 clean); is_open = (c.requires.usable.0 clean).is_open }; bounded = c.requires.bounded }

pub returns : goal.returns
returns g c =
    let t = c.args.self.now.tenant.0 in
    let clock = c.args.clock in
    let tables = c.args.self.now.tables.now in
    let s0 = g.T.LedgerTables.state tables in
    let m = (shown t s0).now in
    let usable = c.requires.usable.0 in
    let live : HasCleanDisk (g.T.LedgerTables.state c.move_clock-done.new.tables) → Live s0 = λ clean.
    let clean0 = clean_before _ _ c.move_clock-done.ensures.follows clean in (clean0, (usable clean0).is_open) in
    tables_or_over g.T.LedgerTables.state _ c.args.self.now c.or_give_up.new.tables c.or_give_up.result _ c.move_clock-done.new.tables _ _ c.move_clock-done.ensures.follows c.move_clock-done.ensures.ok c.or_give_up.ensures
    (λ x moves.
    writes_leave g.T.LedgerTables.state t tables c.move_clock-done.new.tables x (λ rows. rows ≡ rows_for 3 m) (λ rows. rows_for 3 (at_clock m clock)) (λ m. at_clock m clock) c.held_machines.ensures usable c.move_clock-done.ensures.follows
    (λ clean. let covers = c.requires.usable.1 (live clean) in moves clean m (valid_now t s0 (live clean) usable) covers.behind (c.requires.later (live clean)) covers.now)
    (λ live0 valid. record { may = refl; rows = refl; valid = later m clock valid (c.requires.later live0) c.requires.bounded }))
    (λ live. covers_clock _ _ _ (c.requires.usable.1 live) clock (c.requires.later live))
