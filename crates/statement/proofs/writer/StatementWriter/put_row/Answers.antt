use Rattle.std.proofs.Common.{◌∙◌, ◌≡◌, subst}
use Rattle.std.specs.Io.KnownBytes.{Appends}
use Rattle.std.proofs.KnownBytes.{Appends-trans}
use Rattle.statement.specs.Text.{line_of}
use Rattle.statement.specs.Writer.{drain_of, header_left}
use Rattle.statement.proofs.Fronts.{front_after, front_as, front_of_more, on_err}
use Rattle.statement.proofs.writer.StatementWriter.put_row.Goals as goal

pub returns-in_err-put_header-clause-err : goal.returns-in_err-put_header-clause-err
returns-in_err-put_header-clause-err g c =
    on_err c.from_residual-in_err-put_header.result _ (front_of_more _ _ (header_left c.args.self.now) (line_of c.args.row.now) c.in_err-put_header.ensures.puts.err)

pub returns-in_err-put_all-clause-err : goal.returns-in_err-put_all-clause-err
returns-in_err-put_all-clause-err g c =
    let is : c.as_slice.result.now ≡ line_of c.args.row.now = c.as_slice.ensures.value ∙ c.in_ok-put_header.ensures.line ∙ c.in_ok-self.ensures.ok in
    on_err c.from_residual-in_err-put_all.result _
    (front_after _ _ _ (header_left c.args.self.now) (line_of c.args.row.now) c.in_ok-put_header.ensures.puts.ok (front_as _ _ _ _ is c.in_err-put_all.ensures.err))

pub returns-clause-ok : goal.returns-clause-ok
returns-clause-ok g c =
    let is : c.as_slice.result.now ≡ line_of c.args.row.now = c.as_slice.ensures.value ∙ c.in_ok-put_header.ensures.line ∙ c.in_ok-self.ensures.ok in
    record {
      begun = c.in_ok-put_header.ensures.begun;
      line = Appends-trans _ _ _ (header_left c.args.self.now) (line_of c.args.row.now) c.in_ok-put_header.ensures.puts.ok
          (subst (Appends (g.W.Drain.written (drain_of c.put_header.new.self)) (g.W.Drain.written c.put_all.new.writer)) is c.in_ok-put_all.ensures.ok);
    }
