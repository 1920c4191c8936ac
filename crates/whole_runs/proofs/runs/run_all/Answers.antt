use Rattle.std.proofs.Common.{ℕ, ◌+◌, ap, ◌∙◌, arith, refl}
use Rattle.whole_runs.specs.Reopenings.{Begins}
use Rattle.whole_runs.proofs.CourseLemmas.{none_yet, run_on, named_on, through_on, answered_on}
use Rattle.whole_runs.proofs.FaultLemmas.{failed_on}
use Rattle.whole_runs.proofs.NameLemmas.{none_named_yet}
use Rattle.whole_runs.proofs.runs.run_all.Goals as goal

pub loop-step-init : goal.loop-step-init
loop-step-init g c = record {
  run = λ live.
      rw c.in_ok-answers.ensures.items
      (none_yet g.L.Reopening.means c.args.ledgers.now live c.is_settled.ensures.machines);
  through = λ live. rw c.in_ok-answers.ensures.items (Begins c.is_settled.ensures);
  failed = λ failed nothing. refl;
  named = λ live. rw c.in_ok-answers.ensures.items
      (none_named_yet g.L.Reopening.means g.L.Reopening.names c.args.ledgers.now live
      c.is_settled.ensures.names);
  answered = rw c.in_ok-answers.ensures.items tt;
  count = c.in_ok-answers.ensures.len;
  room = c.in_ok-answers.ensures.exact;
  settled = c.is_settled.ensures;
}

pub loop-step-preserved : goal.loop-step-preserved
loop-step-preserved g c = record {
  run = λ live.
      run_on g.L.Reopening.means g.L.Reopening.names g.L.Reopening.refuses _ _ _ _ _ _ _ _ _ (omega arith) c.step-item.is
      c.push_reserved.ensures.items (c.loop-step.invariant.run live) c.run_step-answer.ensures.makes;
  through = λ live.
      through_on g.L.Reopening.means g.L.Reopening.names g.L.Reopening.refuses _ _ _ _ _ _ _ _ _
      (omega arith) c.step-item.is c.push_reserved.ensures.items g.L.Reopening.has_failed
      (c.loop-step.invariant.through live) (c.loop-step.invariant.run live)
      (c.loop-step.invariant.named live) c.run_step-answer.ensures.makes
      c.run_step-answer.ensures.failed c.is_settled-in-loop-step.ensures;
  failed =
      failed_on g.L.Reopening.has_failed _ _ _ _ _ _ (omega arith) c.step-item.is
      c.loop-step.invariant.failed c.run_step-answer.ensures.failed;
  named = λ live.
      named_on g.L.Reopening.means g.L.Reopening.names g.L.Reopening.refuses _ _ _ _ _ _ _ _ _
      (omega arith) c.step-item.is c.push_reserved.ensures.items (c.loop-step.invariant.named live)
      c.run_step-answer.ensures.makes;
  answered =
      answered_on _ _ _ _ _ _ (omega arith) c.step-item.is c.push_reserved.ensures.items
      c.loop-step.invariant.answered c.run_step-answer.ensures.answer;
  count = c.push_reserved.ensures.len ∙ ap (λ (n : ℕ). n + 1) c.loop-step.invariant.count;
  room = c.push_reserved.ensures.capacity ∙ c.loop-step.invariant.room;
  settled = c.is_settled-in-loop-step.ensures;
}

pub returns-clause-ends : goal.returns-clause-ends
returns-clause-ends g c = record {
  settled = c.loop-step.invariant.settled;
  valid = λ live. g.met.L.Reopening.valid _ live;
}
