use Rattle.std.proofs.Common.{◌≡◌, Ok, Err, Result, OnOk}
use Rattle.records.specs.declared.unavailable.Unavailable.{Unavailable}
use Rattle.records.specs.Machine.{Machine}
use Rattle.records.specs.Valid.{IsValid, with_transfer}
use Rattle.records.specs.Valid.IsValid.{next_transfer}
use Rattle.records.specs.Accepted.{IsAccepted}
use Rattle.rows.specs.Changes.{with_accepted}
use Rattle.stored_tables.specs.InBatch.{shown}
use Rattle.stored_tables.specs.BatchLaws.{live_before}
use Rattle.stored_tables.specs.Moves.{CanAccept}
use Rattle.stored_tables.proofs.AcceptedCovers.{state_covered}
use Rattle.stored_tables.proofs.AcceptedThere.{accepted_there}
use Rattle.stored_tables.proofs.Keeping.{leaves_or_over, held_before}
use Rattle.stored_tables.proofs.RowsTell.{same_themselves}
use Rattle.stored_tables.proofs.Writing.{IsChange, writes_leave, is_inside}
use Rattle.stored_tables.proofs.accepting.accept_transfer.Goals as goal

-- the rows of a machine change so with an accepted transfer
changes : (g : _) (c : goal.After-or_give_up g) (m : Machine) → IsValid m → IsAccepted m c.args.accepted.now → IsChange (CanAccept c.args.accepted.now) (with_accepted c.args.accepted.now) (λ m. with_transfer m c.args.accepted.now.stored) m
changes g c m valid next =
    let same = same_themselves _ in
    record {
      may = accepted_there m valid (c.rows_fit.ensures 3 m valid) (c.keys_are_distinct.ensures m _ valid same) (λ id. c.single_rows.ensures m _ id valid same) c.args.accepted.now next (c.endings_are_told.ensures m c.args.accepted.now valid next);
      rows = c.transfer_rows.ensures m c.args.accepted.now valid next;
      valid = next_transfer m c.args.accepted.now.stored valid next.next;
    }

pub write_transfer-done-requires : goal.write_transfer-done-requires
write_transfer-done-requires g c = record { inside = λ clean. is_inside _ _ (c.requires.may.usable clean); times = c.requires.times }

pub returns-clause-leaves : goal.returns-clause-leaves
returns-clause-leaves g c =
    let a = c.args.accepted.now in
    leaves_or_over g.T.LedgerTables.state _ c.args.tables.now c.write_transfer-done.new.tables _ _ _ _ _ c.write_transfer-done.ensures.changes.follows c.write_transfer-done.ensures.changes.ok c.or_give_up.ensures
    (λ x written.
    writes_leave g.T.LedgerTables.state c.args.tenant.0 c.args.tables.now c.write_transfer-done.new.tables x (CanAccept a) (with_accepted a) (λ m. with_transfer m a.stored) c.held_machines.ensures c.requires.may.usable c.write_transfer-done.ensures.changes.follows written
    (λ live valid. changes g c _ valid (c.requires.may.so live)))

-- what is so where neither of the same results failed
both : {X A B C : Type 0} (r given : Result X Unavailable) → r ≡ given → OnOk r A → OnOk given B → (A → B → C) → OnOk r C
both (Ok x) (Ok y) same a b f = f a b
both (Ok x) (Err e) same a b f = absurd (cc)
both (Err e) given same a b f = tt

pub returns-clause-covers : goal.returns-clause-covers
returns-clause-covers g c live =
    let t = c.args.tenant.0 in
    let a = c.args.accepted.now in
    let s0 = g.T.LedgerTables.state c.args.tables.now in
    let s2 = g.T.LedgerTables.state c.or_give_up.new.tables in
    let leaves = returns-clause-leaves g c in
    let live0 = live_before s0 s2 leaves.follows.calls live in
    let held = held_before g.T.LedgerTables.state t c.args.tables.now c.or_give_up.new.tables c.requires.may.usable leaves.follows.calls live in
    both c.or_give_up.result c.write_transfer-done.result c.or_give_up.ensures.same (leaves.state live) c.write_transfer-done.ensures.kept
    (λ moved due. state_covered _ _ c.write_transfer-done.ensures.grows (shown t s0) (shown t s2) a moved (changes g c (shown t s0).now held.valid (c.requires.may.so live0)).rows due)
