use Rattle.std.proofs.Common.{◌∙◌}
use Rattle.admin_client.proofs.ServedLemmas.{last_more, passed_on, taken_more}
use Rattle.admin_client.proofs.served_statements.hand_entries.Goals as goal

pub loop-entry-preserved : goal.loop-entry-preserved
loop-entry-preserved g c = record {
  taken =
      taken_more g.S.EntrySink.takes c.args.sink.now c.loop-entry.sink c.entry.new.self
      c.args.entries.now c.loop-entry.entry-index c.entry-item.result c.loop-entry-test.true
      c.entry-item.is
      c.loop-entry.invariant.taken c.in_ok-entry.ensures.taken;
  last =
      last_more c.args.entries.now c.loop-entry.entry-index c.entry-item.result
      c.loop-entry-test.true c.entry-item.is;
  failed = c.in_ok-entry.ensures.failed ∙ c.loop-entry.invariant.failed;
}

pub returns-in_err-entry-clause-failed : goal.returns-in_err-entry-clause-failed
returns-in_err-entry-clause-failed g c =
    passed_on c.from_residual.result c.in_err-entry.field-0.0 _ _ _
    c.from_residual.ensures.1 c.in_err-entry.ensures.failed
    c.loop-entry.invariant.failed
