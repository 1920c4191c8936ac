use Rattle.std.proofs.Common.{◌≡◌, ◌∷◌, ◌++◌, [], All, OnOk, w64, to_z, of_z, length, length-append, sym, subst, rules, arith}
use Rattle.std.proofs.lemmas.Result.{on_ok_weaker}
use Rattle.std.proofs.lemmas.Slice.Zip.{zip_end, zip_turn}
use Rattle.openings.specs.Opened.{CoversCells}
use Rattle.openings.proofs.Passed.{passed}
use Rattle.openings.proofs.KeptSets.{AreKeptTo, at_place, kept_all, kept_more}
use Rattle.openings.proofs.due_sets.sets_of.Goals as goal
use Rattle.openings.proofs.due_sets.sets_of.Goals.{After-insert}

pub loop-row-init : goal.loop-row-init
loop-row-init c place row tenant below = absurd (omega (arith, below))

-- the set of this turn was put in
kept_next : (c : After-insert) → OnOk c.insert.result
    (AreKeptTo (length (c.loop-row.yielded ++ (c.in-Some.row, c.in-Some.tenant) ∷ [])) c.insert.new.self
    c.args.directory.now c.args.tenants.now)
kept_next c =
    let directory = c.args.directory.now in
    let tenants = c.args.tenants.now in
    let row = c.in-Some.row.now in
    let tenant = c.in-Some.tenant.now in
    let place = length c.loop-row.yielded in
    let turn = zip_turn directory tenants c.loop-row.yielded c.into_iter-row-iterator.result c.loop-row.row-iterator
    c.next.new.self c.next.result (search rules) (search rules) c.loop-row.yielded_by _ c.in-Some.is c.next.ensures.steps in
    let number : to_z w64 (of_z w64 row.number) ≡ row.number = passed row.number (search rules) in
    on_ok_weaker c.insert.result (λ updates.
    let written = rw number at updates in
    subst (λ many. AreKeptTo many c.insert.new.self directory tenants)
    (sym (length-append c.loop-row.yielded ((c.in-Some.row, c.in-Some.tenant) ∷ [])))
    (kept_more place c.loop-row.sets c.insert.new.self directory tenants row tenant c.in_ok-set.set
    (at_place directory place row turn.0 (turn.2 row)) (at_place tenants place tenant turn.1 (turn.3 tenant))
    (subst (All (CoversCells c.in_ok-set.set)) c.deref.ensures.value c.in_ok-set.ensures)
    written.1 written.2 c.loop-row.invariant)) c.insert.ensures.updates

pub loop-row-preserved : goal.loop-row-preserved
loop-row-preserved c = rw c.in_ok-insert.was at (kept_next (goal.at.loop-row-preserved c).After-insert)

pub loop-row-preserved-in_ok-insert : goal.loop-row-preserved-in_ok-insert
loop-row-preserved-in_ok-insert c =
    rw c.in_ok-insert.was at (kept_next (goal.at.loop-row-preserved-in_ok-insert c).After-insert)

pub returns : goal.returns
returns c =
    let directory = c.args.directory.now in
    let tenants = c.args.tenants.now in
    kept_all (length c.loop-row.yielded) c.loop-row.sets directory tenants
    (zip_end directory tenants c.loop-row.yielded c.into_iter-row-iterator.result c.loop-row.row-iterator
    c.next.new.self c.next.result (search rules) (search rules) c.loop-row.yielded_by c.in-None.is c.next.ensures.steps)
    c.loop-row.invariant
