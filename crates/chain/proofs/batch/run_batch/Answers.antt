use Rattle.std.proofs.Common.{◌+◌, ◌-◌, ◌∙◌, sym, ap, arith, length, refl}
use Rattle.records.specs.Chains.{chains_of, after_chains}
use Rattle.records.specs.Step.{at_clock, step_machine}
use Rattle.chain.specs.Tables.{on_now, same}
use Rattle.chain.proofs.TableCalls.{Joins, in_turn, changed_so, leaves_run}
use Rattle.chain.proofs.StepOutcomes.{outcome_exhausted, machine_exhausted, outcome_answered}
use Rattle.chain.proofs.StepOutcomes.{machine_answered}
use Rattle.chain.proofs.EntriesUpToClock.{batch_begins}
use Rattle.chain.proofs.batch.run_batch.Goals as goal

pub returns-in_default-clause-reply : goal.returns-in_default-clause-reply
returns-in_default-clause-reply g c live =
    let late = rw (c.in_ok-clock.ensures.value live) at c.in_default.ensures in
    rw (outcome_exhausted g.E.BatchEvent.rules (g.T.Tables.means.state c.args.tables.now).now
    c.args.batch.now c.args.moment late) tt

pub returns-in_default-clause-leaves : goal.returns-in_default-clause-leaves
returns-in_default-clause-leaves g c =
    let t = g.T.Tables.means in
    let rules = g.E.BatchEvent.rules in
    let old = t.state c.args.tables.now in
    leaves_run t c.args.tables.now c.clock.new.self _
    (on_now (λ m. step_machine rules m c.args.batch.now c.args.moment))
    (changed_so t c.args.tables.now c.clock.new.self _ _ same
    (on_now (λ m. step_machine rules m c.args.batch.now c.args.moment)) c.in_ok-clock.ensures.leaves
    (λ live.
    let late = rw (c.in_ok-clock.ensures.value live) at c.in_default.ensures in
    ap (λ m. on_now (λ n. m) old)
    (sym (machine_exhausted rules old.now c.args.batch.now c.args.moment late))))

pub run_chains-requires-clause-between : goal.run_chains-requires-clause-between
run_chains-requires-clause-between g c live =
    let t = g.T.Tables.means in
    let old = t.state c.args.tables.now in
    let clocked : t.is_live c.clock.new.self =
    g.met.T.Tables.lived _ _ c.in_ok-settle.ensures.follows live in
    let was : t.is_live c.args.tables.now =
    g.met.T.Tables.lived _ _ c.in_ok-clock.ensures.leaves.follows clocked in
    let settled =
    rw (c.in_ok-clock.ensures.leaves.state clocked) at c.in_ok-settle.ensures.state live in
    let told = c.in_ok-clock.ensures.value clocked in
    let first = c.in-Some.clock - length c.args.batch.now + 1 in
    let begins = batch_begins old.now c.in-Some.clock first
    (g.met.T.Tables.valid c.args.tables.now was c.requires.usable) (omega arith) in
    record {
      in_batch = rw settled begins;
      unmarked = ap (λ s. s.marked) settled ∙ (c.requires.fresh was).unmarked;
    }

pub returns-clause-reply : goal.returns-clause-reply
returns-clause-reply g c live =
    let t = g.T.Tables.means in
    let rules = g.E.BatchEvent.rules in
    let old = t.state c.args.tables.now in
    let settled_live : t.is_live c.settle.new.self =
    g.met.T.Tables.lived _ _ c.in_ok-run_chains.ensures.leaves.follows live in
    let clocked : t.is_live c.clock.new.self =
    g.met.T.Tables.lived _ _ c.in_ok-settle.ensures.follows settled_live in
    let settled =
    rw (c.in_ok-clock.ensures.leaves.state clocked) at c.in_ok-settle.ensures.state settled_live in
    let told = rw (c.in_ok-clock.ensures.value clocked) at c.in-Some.ensures.0 in
    let items = rw (c.in_ok-results.ensures.items, settled) at c.in_ok-run_chains.ensures.results
    live in
    rw (outcome_answered rules old.now c.args.batch.now c.args.moment c.in-Some.clock told
    c.in-Some.ensures.1) (refl, items)

pub returns-clause-leaves : goal.returns-clause-leaves
returns-clause-leaves g c =
    let t = g.T.Tables.means in
    let rules = g.E.BatchEvent.rules in
    let joins : Joins t = record { then = g.met.T.Tables.then; lived = g.met.T.Tables.lived } in
    let old = t.state c.args.tables.now in
    let clock = c.in-Some.clock in
    let first = clock - length c.args.batch.now + 1 in
    let settling = on_now (λ m. at_clock m clock) in
    let running =
    on_now (λ m. after_chains rules m (chains_of rules.linked c.args.batch.now) first) in
    let settled =
    in_turn t c.args.tables.now c.clock.new.self c.settle.new.self _ _ same settling joins
    c.in_ok-clock.ensures.leaves c.in_ok-settle.ensures in
    let ran = in_turn t c.args.tables.now c.settle.new.self c.run_chains.new.tables _ _ settling
    running joins settled c.in_ok-run_chains.ensures.leaves in
    leaves_run t c.args.tables.now c.run_chains.new.tables _
    (on_now (λ m. step_machine rules m c.args.batch.now c.args.moment))
    (changed_so t c.args.tables.now c.run_chains.new.tables _ _ (λ s. running (settling s))
    (on_now (λ m. step_machine rules m c.args.batch.now c.args.moment)) ran (λ live.
    let clocked : t.is_live c.clock.new.self =
    joins.lived _ _
    (joins.then _ _ _ c.in_ok-settle.ensures.follows c.in_ok-run_chains.ensures.leaves.follows)
    live in
    let told = rw (c.in_ok-clock.ensures.value clocked) at c.in-Some.ensures.0 in
    ap (λ m. on_now (λ n. m) old)
    (sym (machine_answered rules old.now c.args.batch.now c.args.moment clock told
    c.in-Some.ensures.1))))
