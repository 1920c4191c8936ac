use Rattle.std.proofs.Common.{max, min, ap, ◌∙◌}
use Rattle.records.specs.declared.query.PageFilter.{PageFilter}
use Rattle.records.specs.Queries.{page_span}
use Rattle.chain.proofs.TableCalls.{Joins, looks_in_turn}
use Rattle.chain.proofs.PageShows.{showing_begins, showing_goes_on, showing_ends}
use Rattle.chain.proofs.pages.first_shown.Goals as goal

pub spans-init : goal.spans-init
spans-init g c =
    showing_begins g.T.Tables.means g.Q.Source.time_of (g.Q.Query.shown_in c.args.query.now) (g.Q.Query.asks c.args.query.now)
    (g.Q.Source.records_in c.args.query.now) c.args.tables.now c.span.result c.clamp.result _ c.requires (g.met.T.Tables.stays c.args.tables.now)
    (c.span.ensures ∙ ap page_span c.page-asked.ensures)
    (c.clamp.ensures ∙ ap (λ (asked : PageFilter). max 1 (min asked.limit 1000)) c.page-asked.ensures)
    (ap (λ xs. record { entries = xs; next = 0 }) c.new.ensures.items)

pub spans-preserved : goal.spans-preserved
spans-preserved g c =
    let joins : Joins g.T.Tables.means =
    record { then = g.met.T.Tables.then; lived = g.met.T.Tables.lived } in
    showing_goes_on g.T.Tables.means g.Q.Source.time_of (g.Q.Query.shown_in c.args.query.now) (g.Q.Query.asks c.args.query.now)
    (g.Q.Source.records_in c.args.query.now) c.args.tables.now c.spans.tables c.look_within.new.tables c.spans.span
    c.span_behind.result c.min-most.result c.spans.draft c.look_within.new.draft c.in_ok-look_within.field-0 joins
    c.spans.invariant c.in_ok-look_within.ensures.value c.if-branch.false
    c.in_ok-look_within.ensures.leaves c.span_behind.ensures c.min-most.ensures

pub returns-then-branch : goal.returns-then-branch
returns-then-branch g c =
    let joins : Joins g.T.Tables.means =
    record { then = g.met.T.Tables.then; lived = g.met.T.Tables.lived } in record {
      value = λ live.
          showing_ends g.T.Tables.means g.Q.Source.time_of (g.Q.Query.shown_in c.args.query.now) (g.Q.Query.asks c.args.query.now)
          (g.Q.Source.records_in c.args.query.now) c.args.tables.now c.spans.tables c.look_within.new.tables c.spans.span
          c.spans.draft c.look_within.new.draft c.in_ok-look_within.field-0 joins c.spans.invariant
          c.in_ok-look_within.ensures.value c.if-branch.true c.in_ok-look_within.ensures.leaves live;
      leaves = looks_in_turn _ _ _ _ _ _ _ joins c.spans.invariant.leaves c.in_ok-look_within.ensures.leaves;
    }
