use Rattle.std.proofs.Common.{◌+◌}
use Rattle.std.proofs.lemmas.List.{take_rest}
use Rattle.chain.proofs.TableCalls.{Joins}
use Rattle.chain.proofs.BatchProgress.{running_on, ran_whole}
use Rattle.chain.proofs.ChainOutcomes.{recorded_run, unused_after_try}
use Rattle.chain.proofs.batch.run_chains.Goals as goal

pub record_failed-requires-clause-unused : goal.record_failed-requires-clause-unused
record_failed-requires-clause-unused g c live =
    let chain = c.first_chain-chain.result in
    rw (c.in_ok-refusal.ensures.refusal live, c.in_ok-refusal.ensures.leaves.state live)
    (unused_after_try g.E.BatchEvent.rules g.met.E.BatchEvent.laws
    (g.T.Tables.means.state c.loop-start.tables).now chain.is_open chain.judged.now
    (c.args.first + c.loop-start.start))

pub loop-start-preserved : goal.loop-start-preserved
loop-start-preserved g c =
    let joins : Joins g.T.Tables.means =
    record { then = g.met.T.Tables.then; lived = g.met.T.Tables.lived } in
    let chain = c.first_chain-chain.result in
    let cut = rw (take_rest c.args.batch.now
    c.loop-start.start) at c.first_chain-chain.ensures.first in
    let fits = rw (take_rest c.args.batch.now
    c.loop-start.start) at c.first_chain-chain.ensures.within in
    let ran = recorded_run g.T.Tables.means g.E.BatchEvent.rules chain.is_open chain.judged.now
    (c.args.first + c.loop-start.start) _ _ _ _ _ joins c.in_ok-refusal.ensures.refusal
    c.in_ok-refusal.ensures.leaves c.in_ok-record_failed.ensures in
    rw c.size-start.ensures
    (running_on g.T.Tables.means g.E.BatchEvent.rules c.args.batch.now c.args.first c.args.clock
    c.loop-start.start _ _ _ _ _ _ chain.is_open chain.judged.now c.in_ok-refusal.refusal joins
    g.met.E.BatchEvent.laws c.loop-start.invariant cut fits
    (λ live. c.in_ok-refusal.ensures.refusal (joins.lived _ _ c.in_ok-record_failed.ensures.follows live))
    c.in_ok-refusal.ensures.within ran c.push_results.ensures.items
    c.push_results.ensures.len c.push_results.ensures.capacity)

pub returns-clause-results : goal.returns-clause-results
returns-clause-results g c =
    (ran_whole g.T.Tables.means g.E.BatchEvent.rules _ _ _ _ _ _ _ _ c.loop-start.invariant
    c.loop-start-test.false).0

pub returns-clause-leaves : goal.returns-clause-leaves
returns-clause-leaves g c =
    (ran_whole g.T.Tables.means g.E.BatchEvent.rules _ _ _ _ _ _ _ _ c.loop-start.invariant
    c.loop-start-test.false).1
