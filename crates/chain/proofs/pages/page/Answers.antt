use Rattle.std.proofs.Common.{max, min, ap, ◌∙◌}
use Rattle.records.specs.declared.query.PageFilter.{PageFilter}
use Rattle.records.specs.Queries.{page_span}
use Rattle.chain.proofs.TableCalls.{Joins}
use Rattle.chain.proofs.PageWalks.{making_begins, making_goes_on, making_ends}
use Rattle.chain.proofs.pages.page.Goals as goal

pub loop-left-init : goal.loop-left-init
loop-left-init g c =
    making_begins g.T.Tables.means g.Q.Source.time_of (g.Q.Query.shown_in c.args.query.now) (g.Q.Query.asks c.args.query.now)
    (g.Q.Source.records_in c.args.query.now) c.args.tables.now c.span.result c.clamp.result _ c.requires (g.met.T.Tables.stays c.args.tables.now)
    (c.span.ensures ∙ ap page_span c.page-asked.ensures)
    (c.clamp.ensures ∙ ap (λ (asked : PageFilter). max 1 (min asked.limit 2000)) c.page-asked.ensures)
    (ap (λ xs. record { entries = xs; next = 0 }) c.new.ensures.items)

pub loop-left-preserved : goal.loop-left-preserved
loop-left-preserved g c =
    let joins : Joins g.T.Tables.means =
    record { then = g.met.T.Tables.then; lived = g.met.T.Tables.lived } in
    making_goes_on g.T.Tables.means g.Q.Source.time_of (g.Q.Query.shown_in c.args.query.now) (g.Q.Query.asks c.args.query.now)
    (g.Q.Source.records_in c.args.query.now) c.args.tables.now c.loop-left.tables c.look_within.new.tables c.loop-left.left c.loop-left.span
    c.span_behind.result c.min-most.result c.loop-left.draft c.look_within.new.draft c.in_ok-look_within.field-0 joins
    c.loop-left.invariant c.loop-left-test.true c.in_ok-look_within.ensures.value c.if-branch.false
    c.in_ok-look_within.ensures.leaves c.span_behind.ensures c.min-most.ensures

pub returns : goal.returns
returns g c = record {
  value = λ live.
      making_ends g.T.Tables.means g.Q.Source.time_of (g.Q.Query.shown_in c.args.query.now) (g.Q.Query.asks c.args.query.now)
      (g.Q.Source.records_in c.args.query.now) c.args.tables.now c.loop-left.tables c.loop-left.left c.loop-left.span c.loop-left.draft
      c.loop-left.invariant c.loop-left-test.false live;
  leaves =
      let so_far = c.loop-left.invariant.leaves in
      record { same = so_far.same; usable = so_far.usable; follows = so_far.follows };
}
