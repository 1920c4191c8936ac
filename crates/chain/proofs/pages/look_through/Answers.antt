use Rattle.std.proofs.Common.{sym, ◌∙◌}
use Rattle.chain.specs.Pages.{page_of}
use Rattle.chain.proofs.TableCalls.{Joins}
use Rattle.chain.proofs.PageSteps.{full_on}
use Rattle.chain.proofs.PageWalks.{looked_at}
use Rattle.chain.proofs.pages.look_through.Goals as goal

pub returns-then-is_full : goal.returns-then-is_full
returns-then-is_full g c = record {
  value = λ live.
      full_on g.Q.Source.time_of (g.Q.Query.shown_in c.args.query.now (g.T.Tables.means.state c.args.tables.now).now)
      (g.Q.Query.asks c.args.query.now) c.args.records.now c.loop-record.record-index (page_of c.args.draft.now)
      (page_of c.loop-record.draft) (c.loop-record.invariant.looked live) (sym c.is_full.ensures ∙ c.if-is_full.true);
  leaves = c.loop-record.invariant.leaves;
}

pub loop-record-preserved : goal.loop-record-preserved
loop-record-preserved g c =
    let joins : Joins g.T.Tables.means =
    record { then = g.met.T.Tables.then; lived = g.met.T.Tables.lived } in
    looked_at g.T.Tables.means g.Q.Source.time_of (g.Q.Query.shown_in c.args.query.now) (g.Q.Query.asks c.args.query.now)
    c.args.records.now c.loop-record.record-index c.args.tables.now c.loop-record.tables c.look_at.new.tables
    c.args.draft.now c.loop-record.draft c.look_at.new.draft c.record-item.result _ joins
    c.loop-record.invariant c.loop-record-test.true c.record-item.is (sym c.is_full.ensures ∙ c.if-is_full.false)
    c.in_ok-look_at.ensures.entries c.in_ok-look_at.ensures.behind c.in_ok-look_at.ensures.leaves
