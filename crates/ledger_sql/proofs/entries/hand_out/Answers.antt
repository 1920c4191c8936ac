use Rattle.std.proofs.Common.{[], refl, rules, inl, ◌∙◌}
use Rattle.sqlite.specs.Values.{bound}
use Rattle.records.specs.declared.unavailable.Unavailable.TheVariants.{Size}
use Rattle.ledger_sql.specs.declared.table_fault.TableFault.{TableFault}
use Rattle.ledger_sql.specs.declared.table_fault.TableFault.TheVariants.{Unavailable}
use Rattle.ledger_sql.proofs.QueryLemmas.{failed_kept, query_follows, quiet}
use Rattle.ledger_sql.proofs.StreamLemmas.{starts}
use Rattle.ledger_sql.proofs.HandLemmas.{handing_begins, handing_moves, handed_all, handed_some, handed_full, never_ok, always_err, handed_off, full_then, wants_then}
use Rattle.ledger_sql.proofs.entries.hand_out.Goals as goal

pub returns-in_err-rows-clause-handed : goal.returns-in_err-rows-clause-handed
returns-in_err-rows-clause-handed g c = record { handed = []; taken = refl; first = λ _. inl refl; ended = λ _. never_ok _ c.from_residual.result c.from_residual.ensures.0; wants = always_err _ c.from_residual.result c.requires.open }

pub returns-in_err-rows-clause-reads : goal.returns-in_err-rows-clause-reads
returns-in_err-rows-clause-reads g c =
    let held = rw c.in_err-rows.was at c.query.follows.holds-at-none in
    record {
      same = search rules;
      kept = λ clean. failed_kept c.args.text.now (bound c.args.params.now) _ _ c.requires.reading _ (held.err clean);
      follows = query_follows c.args.text.now (bound c.args.params.now) _ _ c.requires.reading held.survives (λ clean. failed_kept c.args.text.now (bound c.args.params.now) _ _ c.requires.reading _ (held.err clean));
    }

pub rows-init : goal.rows-init
rows-init g c =
    let made = c.in_ok-rows.ensures in
    (refl, handing_begins g.S.Store g.K.EntrySink.takes c.args.text.now (bound c.args.params.now) c.args.conn.now c.args.sink.now c.in_ok-rows.rows.conn.now (starts g.S.Store c.args.text.now (bound c.args.params.now) c.args.conn.now c.in_ok-rows.rows.conn.now c.requires.reading (quiet c.args.text.now (bound c.args.params.now) _ _ c.requires.reading made.survives) made.begun), c.requires.open)

pub returns-in_err-row-clause-handed : goal.returns-in_err-row-clause-handed
returns-in_err-row-clause-handed g c =
    let here = handed_some g.S.Store g.K.EntrySink.takes c.args.text.now (bound c.args.params.now) c.args.conn.now c.args.sink.now c.rows.rows.conn.now c.next.follows.lender-at-none.conn.now c.rows.sink c.rows.invariant.1 c.next.follows.holds-at-none.survives g.K.EntrySink.is_full c.rows.invariant.2 c.from_residual-in_err-row.result c.from_residual-in_err-row.ensures.0 in
    search rules

pub returns-in_default-clause-handed : goal.returns-in_default-clause-handed
returns-in_default-clause-handed g c =
    let it = c.rows.invariant.1 in
    let now = c.next.follows.lender-at-none.conn.now in
    let moved = c.next.follows.holds-at-none in
    let ok = rw (c.in_ok-row.was, c.in_default.is) at moved.ok in
    let here = handed_all g.S.Store g.K.EntrySink.takes c.args.text.now (bound c.args.params.now) c.args.conn.now c.args.sink.now c.rows.rows.conn.now now c.rows.sink it moved.survives {E = TableFault} g.K.EntrySink.is_full c.requires.reading ok in
    search rules

pub returns-in_err-entry-clause-handed : goal.returns-in_err-entry-clause-handed
returns-in_err-entry-clause-handed g c =
    let here = handed_some g.S.Store g.K.EntrySink.takes c.args.text.now (bound c.args.params.now) c.args.conn.now c.args.sink.now c.rows.rows.conn.now c.next.follows.lender-at-none.conn.now c.rows.sink c.rows.invariant.1 c.next.follows.holds-at-none.survives g.K.EntrySink.is_full c.rows.invariant.2 c.from_residual-in_err-entry.result c.from_residual-in_err-entry.ensures.0 in
    search rules

pub returns-then-not-entry-clause-handed : goal.returns-then-not-entry-clause-handed
returns-then-not-entry-clause-handed g c =
    let it = c.rows.invariant.1 in
    let now = c.next.follows.lender-at-none.conn.now in
    let moved = c.next.follows.holds-at-none in
    let ok = rw (c.in_ok-row.was, c.in-Some.is) at moved.ok in
    let same = rw c.in_ok-row.was at moved.same in
    let next = handing_moves g.S.Store g.K.EntrySink.takes c.args.text.now (bound c.args.params.now) c.args.conn.now c.args.sink.now c.rows.rows.conn.now now c.rows.sink it moved.survives c.in-Some.row.now c.in_ok-entry.entry c.in_ok-entry.ensures.values ok same c.entry.new.self c.entry.ensures.taken in
    let here = handed_full g.S.Store g.K.EntrySink.takes c.args.text.now (bound c.args.params.now) c.args.conn.now c.args.sink.now {E = TableFault} g.K.EntrySink.is_full now c.entry.new.self next (full_then c.entry.result (g.K.EntrySink.is_full c.entry.new.self) c.entry.ensures.more (search rules)) in
    search rules

pub rows-preserved : goal.rows-preserved
rows-preserved g c =
    let moved = c.next.follows.holds-at-none in
    let ok = rw (c.in_ok-row.was, c.in-Some.is) at moved.ok in
    let same = rw c.in_ok-row.was at moved.same in
    let next = handing_moves g.S.Store g.K.EntrySink.takes c.args.text.now (bound c.args.params.now) c.args.conn.now c.args.sink.now c.rows.rows.conn.now c.next.follows.lender-at-none.conn.now c.rows.sink c.rows.invariant.1 moved.survives c.in-Some.row.now c.in_ok-entry.entry c.in_ok-entry.ensures.values ok same c.entry.new.self c.entry.ensures.taken in
    (moved.same_reference ∙ c.rows.invariant.0, next, wants_then c.entry.result (g.K.EntrySink.is_full c.entry.new.self) c.entry.ensures.more (search rules))

pub returns-clause-handed : goal.returns-clause-handed
returns-clause-handed g c =
    let here = handed_off g.S.Store g.K.EntrySink.takes c.args.text.now (bound c.args.params.now) c.args.conn.now c.args.sink.now c.rows.rows.conn.now c.rows.sink c.rows.invariant.1 g.K.EntrySink.is_full c.rows.invariant.2 (Unavailable Size) in
    search rules
