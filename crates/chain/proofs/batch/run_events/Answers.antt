use Rattle.chain.proofs.TableCalls.{Joins}
use Rattle.chain.proofs.EventTrials.{trying_on, tried_to_refusal, tried_whole}
use Rattle.chain.proofs.batch.run_events.Goals as goal

pub loop-place-preserved : goal.loop-place-preserved
loop-place-preserved g c =
    let joins : Joins g.T.Tables.means =
    record { then = g.met.T.Tables.then; lived = g.met.T.Tables.lived } in
    trying_on g.T.Tables.means g.E.BatchEvent.rules _ _ _ _ _ _ _ _ _ joins g.met.E.BatchEvent.laws
    c.loop-place.invariant c.loop-place-test.true c.index-events-place.is c.in_default.is
    c.in_ok-result.ensures.verdict c.in_ok-result.ensures.leaves

pub returns-in-Some-clause-refusal : goal.returns-in-Some-clause-refusal
returns-in-Some-clause-refusal g c =
    let joins : Joins g.T.Tables.means =
    record { then = g.met.T.Tables.then; lived = g.met.T.Tables.lived } in
    rw c.failed_id.ensures
    (tried_to_refusal g.T.Tables.means g.E.BatchEvent.rules _ _ _ _ _ _ _ _ _ _ joins
    c.loop-place.invariant c.loop-place-test.true c.index-events-place.is c.in-Some.is
    c.in_ok-result.ensures.verdict c.in_ok-result.ensures.leaves).told

pub returns-in-Some-clause-leaves : goal.returns-in-Some-clause-leaves
returns-in-Some-clause-leaves g c =
    let joins : Joins g.T.Tables.means =
    record { then = g.met.T.Tables.then; lived = g.met.T.Tables.lived } in
    rw c.failed_id.ensures
    (tried_to_refusal g.T.Tables.means g.E.BatchEvent.rules _ _ _ _ _ _ _ _ _ _ joins
    c.loop-place.invariant c.loop-place-test.true c.index-events-place.is c.in-Some.is
    c.in_ok-result.ensures.verdict c.in_ok-result.ensures.leaves).leaves

pub returns-clause-refusal : goal.returns-clause-refusal
returns-clause-refusal g c =
    (tried_whole g.T.Tables.means g.E.BatchEvent.rules _ _ _ _ _ _ c.loop-place.invariant
    c.loop-place-test.false).told

pub returns-clause-leaves : goal.returns-clause-leaves
returns-clause-leaves g c =
    (tried_whole g.T.Tables.means g.E.BatchEvent.rules _ _ _ _ _ _ c.loop-place.invariant
    c.loop-place-test.false).leaves
