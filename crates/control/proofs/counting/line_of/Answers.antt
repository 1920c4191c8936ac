use Rattle.std.proofs.Common.{append_assoc}
use Rattle.std.proofs.lemmas.Result.{IfOk-weaker}
use Rattle.control.proofs.counting.line_of.Goals as goal

pub returns-in-Plain : goal.returns-in-Plain
returns-in-Plain c =
    IfOk-weaker c.format.result _ _ (λ line h. rw c.in-Plain.is (simp append_assoc h))
    c.format.ensures.ok

pub returns-in-Metric : goal.returns-in-Metric
returns-in-Metric c =
    IfOk-weaker c.format-in-Metric.result _ _ (λ line h. rw c.in-Metric.is (simp append_assoc h))
    c.format-in-Metric.ensures.ok
