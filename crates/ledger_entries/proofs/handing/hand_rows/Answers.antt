use Rattle.std.proofs.Common.{refl, sym, subst, ◌∙◌, arith, IsErr}
use Rattle.std.proofs.lemmas.List.{length-map}
use Rattle.keyed_trees.specs.Kept.{state}
use Rattle.keyed_trees.specs.Rows.{row_of}
use Rattle.ledger_sql.specs.Schema.{ledger_schema}
use Rattle.ledger_entries.specs.Pieces.{history_columns}
use Rattle.ledger_entries.proofs.LoopLemmas.{no_rows, rows_failed, rows_next, rows_over, rows_stopped}
use Rattle.ledger_entries.proofs.handing.hand_rows.Goals as goal

pub loop-row-init : goal.loop-row-init
loop-row-init g c =
    record { tenant = refl; within = omega arith; handing = no_rows g.K.EntrySink.takes g.K.EntrySink.is_full (state ledger_schema g.S.Store c.args.tables.now) _ c.args.wanted.now.left c.args.sink.now c.requires }

pub loop-row-preserved : goal.loop-row-preserved
loop-row-preserved g c =
    let was = c.loop-row.invariant in
    record {
      tenant = c.hand_row.ensures.tenant ∙ was.tenant;
      within = omega arith;
      handing = rows_next g.K.EntrySink.takes g.K.EntrySink.is_full _ _ (state ledger_schema g.S.Store c.hand_row.new.tables) c.args.wanted.now.tenant c.loop-row.wanted.tenant was.tenant (row_of history_columns) c.args.rows.now c.loop-row.row-index _ c.loop-row-test.true _ _ _ _ _ _
          was.handing c.hand_row.ensures.follows c.in_ok-more.more c.in_ok-more.ensures.handed c.if-not-more.false c.in_ok-more.ensures.same;
    }

pub returns-in_err-more-clause-handed : goal.returns-in_err-more-clause-handed
returns-in_err-more-clause-handed g c =
    let was = c.loop-row.invariant in
    rows_failed g.K.EntrySink.takes g.K.EntrySink.is_full _ _ (state ledger_schema g.S.Store c.hand_row.new.tables) c.args.wanted.now.tenant c.loop-row.wanted.tenant was.tenant (row_of history_columns) c.args.rows.now c.loop-row.row-index _ c.loop-row-test.true _ _ _ _ _ _
    was.handing c.hand_row.ensures.follows c.hand_row.result c.hand_row.ensures.handed c.from_residual.result c.from_residual.ensures.0 (subst IsErr (sym c.in_err-more.was) refl)

pub returns-then-not-more-clause-handed : goal.returns-then-not-more-clause-handed
returns-then-not-more-clause-handed g c =
    let was = c.loop-row.invariant in
    rows_stopped g.K.EntrySink.takes g.K.EntrySink.is_full _ _ (state ledger_schema g.S.Store c.hand_row.new.tables) c.args.wanted.now.tenant c.loop-row.wanted.tenant was.tenant (row_of history_columns) c.args.rows.now c.loop-row.row-index _ c.loop-row-test.true _ _ _ _ _ _
    was.handing c.hand_row.ensures.follows c.in_ok-more.more c.in_ok-more.ensures.handed c.if-not-more.true

pub returns-clause-handed : goal.returns-clause-handed
returns-clause-handed g c =
    let was = c.loop-row.invariant in
    rows_over g.K.EntrySink.takes g.K.EntrySink.is_full (state ledger_schema g.S.Store c.args.tables.now) _ _ _ c.loop-row.row-index _ _ _ _ was.handing (omega (arith, length-map c.args.rows.now (row_of history_columns)))
