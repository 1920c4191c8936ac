use Rattle.std.proofs.Common.{◌∙◌, ap}
use Rattle.chain.proofs.TableCalls.{Joins}
use Rattle.chain.proofs.LookLemmas.{looked_on, one_found, none_found}
use Rattle.chain.proofs.lookups.found.Goals as goal
use Rattle.chain.proofs.lookups.found.Goals.{in-Some+in_ok-push, in_default}

pub loop-id-preserved : goal.loop-id-preserved
loop-id-preserved g c =
    let joins : Joins g.T.Tables.means =
    record { then = g.met.T.Tables.then; lived = g.met.T.Tables.lived } in
    looked_on g.T.Tables.means g.B.ById.found_in c.args.ids.now c.loop-id.id-index c.args.tables.now
    c.loop-id.tables c.find.new.tables c.loop-id.found.items c.match-branch-2.found.items
    c.in_ok-record.field-0 _ joins c.loop-id.invariant c.loop-id-test.true
    c.in_ok-record.ensures.value c.in_ok-record.ensures.leaves
    (elim c.match-branch-2.branch [
      | in-Some+in_ok-push w ↦
          one_found _ _ c.in_ok-record.field-0 _ w.in-Some.is
          (ap (λ v. v.items) w.found-is ∙ w.in_ok-push.ensures.items)
      | in_default w ↦
          none_found _ _ c.in_ok-record.field-0 w.in_default.is (ap (λ v. v.items) w.found-is)
    ])
