use Rattle.std.proofs.Common.{◌∙◌, sym}
use Rattle.chain.proofs.TableCalls.{Joins}
use Rattle.chain.proofs.ChainOutcomes.{lone_run, marked_run}
use Rattle.chain.proofs.batch.try_chain.Goals as goal

pub returns-then-size-eq1-clause-leaves : goal.returns-then-size-eq1-clause-leaves
returns-then-size-eq1-clause-leaves g c =
    lone_run g.T.Tables.means g.E.BatchEvent.rules c.args.chain.now.is_open
    c.args.chain.now.judged.now c.args.first _ _ _ (sym c.size.ensures ∙ c.if-size-eq1.true)
    c.run_events.ensures.leaves

pub returns-clause-leaves : goal.returns-clause-leaves
returns-clause-leaves g c =
    let joins : Joins g.T.Tables.means =
    record { then = g.met.T.Tables.then; lived = g.met.T.Tables.lived } in
    marked_run g.T.Tables.means g.E.BatchEvent.rules c.args.chain.now.is_open
    c.args.chain.now.judged.now c.args.first _ _ _ _ _ _ _ _ joins
    (λ live. (c.requires.between live).unmarked) c.in_ok-mark.ensures
    c.in_ok-refusal.ensures.refusal c.in_ok-refusal.ensures.leaves c.stands.ensures
    c.in_ok-close_mark.ensures
