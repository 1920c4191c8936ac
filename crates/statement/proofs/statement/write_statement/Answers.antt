use Rattle.std.proofs.Common.{◌≡◌, ◌∙◌, ◌++◌, ◌+◌, refl, subst, drop, rules}
use Rattle.std.specs.Io.KnownBytes.{Appends}
use Rattle.std.proofs.KnownBytes.{Appends-trans}
use Rattle.statement.specs.Text.{header_line, line_of, lines_of, statement_text}
use Rattle.statement.proofs.Fronts.{front_after, front_as, front_of_more, front_of_written, on_err}
use Rattle.statement.proofs.Rows.{one_line_more}
use Rattle.statement.proofs.statement.write_statement.Goals as goal

pub returns-in_err-put_all-clause-err : goal.returns-in_err-put_all-clause-err
returns-in_err-put_all-clause-err g c =
    on_err c.from_residual.result _
    (front_of_more _ _ header_line (lines_of c.args.rows.now) (front_as _ _ _ _ c.header_line.ensures c.in_err-put_all.ensures.err))

pub loop-row-init : goal.loop-row-init
loop-row-init g c = (
  header_line,
  refl,
  subst (Appends (g.W.Drain.written c.args.writer.now) (g.W.Drain.written c.put_all.new.writer)) c.header_line.ensures c.in_ok-put_all.ensures.ok,
  search rules,
)

pub loop-row-preserved : goal.loop-row-preserved
loop-row-preserved g c =
    let before = c.loop-row.invariant in
    let is : c.as_slice.result.now ≡ line_of c.row-item.result = c.as_slice.ensures.value ∙ c.in_ok-line.ensures.ok in (
      before.0 ++ line_of c.row-item.result,
      one_line_more c.args.rows.now c.loop-row.row-index c.row-item.result before.0 (statement_text c.args.rows.now) c.loop-row-test.true c.row-item.is before.1,
      Appends-trans _ _ _ before.0 (line_of c.row-item.result) before.2
          (subst (Appends (g.W.Drain.written c.loop-row.writer) (g.W.Drain.written c.put_all-in-loop-row.new.writer)) is c.in_ok-put_all-2.ensures.ok),
      search rules,
    )

pub returns-in_err-line-clause-err : goal.returns-in_err-line-clause-err
returns-in_err-line-clause-err g c =
    let before = c.loop-row.invariant in
    on_err c.from_residual-in_err-line.result _ (front_as _ _ _ _ before.1 (front_of_written _ _ before.0 (lines_of (drop c.loop-row.row-index c.args.rows.now)) before.2))

pub returns-in_err-put_all-2-clause-err : goal.returns-in_err-put_all-2-clause-err
returns-in_err-put_all-2-clause-err g c =
    let before = c.loop-row.invariant in
    let is : c.as_slice.result.now ≡ line_of c.row-item.result = c.as_slice.ensures.value ∙ c.in_ok-line.ensures.ok in
    let sent = front_after _ _ _ before.0 (line_of c.row-item.result) before.2 (front_as _ _ _ _ is c.in_err-put_all-2.ensures.err) in
    on_err c.from_residual-in_err-put_all-2.result _
    (front_as _ _ _ _ (one_line_more c.args.rows.now c.loop-row.row-index c.row-item.result before.0 (statement_text c.args.rows.now) c.loop-row-test.true c.row-item.is before.1)
    (front_of_more _ _ (before.0 ++ line_of c.row-item.result) (lines_of (drop (c.loop-row.row-index + 1) c.args.rows.now)) sent))
