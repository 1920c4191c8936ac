use Rattle.sqlite_rules.proofs.ViewLemmas.{on_ok_both}
use Rattle.keyed_trees.proofs.ReadLemmas.{no_err}
use Rattle.keyed_trees.proofs.marks.back.Goals as goal

pub returns-else-is_err : goal.returns-else-is_err
returns-else-is_err g c = record {
  ok = on_ok_both c.rollback_to-outcome.result (λ back none clean. record { back = back clean; none = none clean }) c.rollback_to-outcome.ensures.ok c.rollback_to-outcome.ensures.none;
  err = λ clean. no_err _ c.rollback_to-outcome.result c.if-is_err.ensures.value;
  lists = no_err _ c.rollback_to-outcome.result c.if-is_err.ensures.value;
  quiet = c.rollback_to-outcome.ensures.quiet;
}
