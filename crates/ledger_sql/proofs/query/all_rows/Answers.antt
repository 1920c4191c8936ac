use Rattle.std.proofs.Common.{List, map, refl, sym, subst, ◌∙◌, rules}
use Rattle.std.specs.Prelude.{All}
use Rattle.std.proofs.lemmas.List.Elements.{All-nil, All-push}
use Rattle.sqlite_value.specs.Order.{Row}
use Rattle.sqlite.specs.Values.{bound}
use Rattle.ledger_sql.proofs.QueryLemmas.{failed_kept, query_follows, quiet}
use Rattle.ledger_sql.proofs.StreamLemmas.{IsUnderWay, starts, moves, way_ends, values_more}
use Rattle.ledger_sql.proofs.query.all_rows.Goals as goal

pub returns-in_err-rows-clause-reads : goal.returns-in_err-rows-clause-reads
returns-in_err-rows-clause-reads g c =
    let held = rw c.in_err-rows.was at c.query.follows.holds-at-none in
    record {
      same = search rules;
      kept = λ clean. failed_kept c.args.text.now (bound c.args.params.now) _ _ c.requires _ (held.err clean);
      follows = query_follows c.args.text.now (bound c.args.params.now) _ _ c.requires held.survives (λ clean. failed_kept c.args.text.now (bound c.args.params.now) _ _ c.requires _ (held.err clean));
    }

pub rows-init : goal.rows-init
rows-init g c =
    let made = c.in_ok-rows.ensures in
    (refl, rw c.new-read.ensures.items (starts g.S.Store c.args.text.now (bound c.args.params.now) c.args.conn.now c.in_ok-rows.rows.conn.now c.requires (quiet c.args.text.now (bound c.args.params.now) _ _ c.requires made.survives) made.begun), rw c.new-read.ensures.items (All-nil g.T.ReadRow.is_storable))

pub rows-preserved : goal.rows-preserved
rows-preserved g c =
    let it = c.rows.invariant.1 in
    let now = c.next.follows.lender-at-none.conn.now in
    let moved = c.next.follows.holds-at-none in
    let ok = rw (c.in_ok-row.was, c.in-Some.is) at moved.ok in
    let same = rw c.in_ok-row.was at moved.same in
    let values = g.T.ReadRow.values in
    let way = moves g.S.Store c.args.text.now (bound c.args.params.now) c.args.conn.now c.rows.rows.conn.now now _ it moved.survives c.in-Some.row.now (values c.in_ok-read_row.field-0) c.in_ok-read_row.ensures.values ok same in
    let under : List Row → Type 0 = IsUnderWay g.S.Store c.args.text.now (bound c.args.params.now) c.args.conn.now now in
    (moved.same_reference ∙ c.rows.invariant.0, subst (λ items. under (map values items)) (sym c.in_ok-push.ensures.items) (subst under (sym (values_more values c.rows.read.items c.in_ok-read_row.field-0)) way), subst (All g.T.ReadRow.is_storable) (sym c.in_ok-push.ensures.items) (All-push g.T.ReadRow.is_storable c.rows.read.items c.in_ok-read_row.field-0 c.rows.invariant.2 c.in_ok-read_row.ensures.fits))

pub returns-in_default-clause-ok : goal.returns-in_default-clause-ok
returns-in_default-clause-ok g c =
    let moved = c.next.follows.holds-at-none in
    let ok = rw (c.in_ok-row.was, c.in_default.is) at moved.ok in
    let here = way_ends g.S.Store c.args.text.now (bound c.args.params.now) c.args.conn.now c.rows.rows.conn.now c.next.follows.lender-at-none.conn.now _ c.rows.invariant.1 moved.survives c.requires ok in
    search rules
