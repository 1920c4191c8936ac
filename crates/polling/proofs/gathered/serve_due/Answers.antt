use Rattle.std.proofs.Common.{sym, ap, arith}
use Rattle.polling.specs.Ring.{Order, numbers_of}
use Rattle.polling.specs.Standing.{turns_of}
use Rattle.polling.proofs.AllLemmas.{beside, none_owed, owed_for, then_owed, turns_as}
use Rattle.polling.proofs.ChosenLemmas.{chosen_owed}
use Rattle.polling.proofs.gathered.serve_due.Goals as goal

pub returns-then-not-is_due-clause-replies : goal.returns-then-not-is_due-clause-replies
returns-then-not-is_due-clause-replies g c =
    record { serves = none_owed (λ one found. found); few = omega arith }

pub returns-then-replies-most-clause-replies : goal.returns-then-replies-most-clause-replies
returns-then-replies-most-clause-replies g c =
    let takes = c.take_turns-chosen in
    let answers = c.answer_chosen-replies.ensures in
    let left = numbers_of takes.new.self.ring.waiting in
    record {
      serves =
          turns_as (ap (λ (order : Order). numbers_of order.waiting) (sym answers.same))
          (then_owed
          (none_owed
          (chosen_owed c.args.gathered.now.ring takes.new.self.ring takes.result takes.ensures))
          (beside (turns_of left) answers.replies.serves) (omega arith));
      few = answers.replies.few;
    }

pub returns-clause-replies : goal.returns-clause-replies
returns-clause-replies g c =
    let takes = c.take_turns-chosen in
    let answers = c.answer_chosen-replies.ensures in
    let few = answers.replies.few in
    let all = c.if-replies-most.false in
    let left = numbers_of takes.new.self.ring.waiting in
    record {
      serves =
          turns_as (ap numbers_of (sym c.end_turns.ensures.none))
          (then_owed {before = c.answer_chosen-replies.result}
          (turns_as (ap (λ (order : Order). numbers_of order.waiting) (sym answers.same))
          (then_owed
          (none_owed
          (chosen_owed c.args.gathered.now.ring takes.new.self.ring takes.result takes.ensures))
          (beside (turns_of left) answers.replies.serves) (omega arith)))
          (owed_for c.end_turns.ensures.owed (λ any. omega (arith, few, all)))
          (omega arith));
      few = few;
    }
