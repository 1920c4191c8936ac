use Rattle.std.proofs.Common.{◌≡◌, ◌∙◌, ap, sym, inr, false, true, is_some, refl, subst, arith}
use Rattle.clients.specs.Talk.{Talk}
use Rattle.service.specs.Seen.{Whole}
use Rattle.polling.specs.Serving.{rules}
use Rattle.polling.specs.Standing.{Finished}
use Rattle.polling.specs.Seating.{ServesOne, count_of}
use Rattle.polling.specs.declared.step.Step.TheVariants as step
use Rattle.polling.proofs.GoingLemmas.{last_finished}
use Rattle.polling.proofs.OneLemmas.{goes}
use Rattle.polling.proofs.ThenLemmas.{idle_too, other_idle, then_one}
use Rattle.polling.proofs.WrittenLemmas.{last_more, left_more, unanswered_some}
use Rattle.polling.proofs.turn.turn.Goals.{then-goes_on-via-then-goes_on, then-goes_on-via-else-goes_on+then-not-is_written}
use Rattle.polling.proofs.turn.turn.Goals as goal

pub returns-in-Waits : goal.returns-in-Waits
returns-in-Waits g c =
    other_idle step.Waits (λ (is : step.Waits ≡ step.More). cc) (c.in-Waits.ensures c.args.moments.now)

pub returns-in-Goes : goal.returns-in-Goes
returns-in-Goes g c =
    other_idle step.Goes (λ (is : step.Goes ≡ step.More). cc) (c.in-Goes.ensures c.args.moments.now)

pub returns-then-is_told_in_parts : goal.returns-then-is_told_in_parts
returns-then-is_told_in_parts g c =
    idle_too (c.in-More.ensures c.args.moments.now)
    (λ none.
    left_more c.args.client.now c.write_on.new.client
    (ap is_some (sym c.rest.ensures) ∙ sym c.is_some-is_told_in_parts.ensures ∙ c.if-is_told_in_parts.true))

pub returns-then-may_answer : goal.returns-then-may_answer
returns-then-may_answer g c =
    then_one (c.in-More.ensures c.args.moments.now)
    (subst
    (λ (talk : Talk).
    ServesOne (rules g.L.Ledgers.means g.C.Moments.gives g.H.Steward.renews g.H.Steward.waits g.P.Peers.does) c.args.number
    (Whole c.write_on.new.ledgers) c.args.moments.now c.write_on.new.peers talk
    (Whole c.answer_or_read.new.ledgers) c.answer_or_read.new.moments c.answer_or_read.new.peers
    c.answer_or_read.new.client c.answer_or_read.result.step false
    (count_of c.answer_or_read.result.replied))
    c.next_of-batch.ensures c.answer_or_read.ensures)
    (λ none. inr refl) (omega arith)

pub returns-then-goes_on : goal.returns-then-goes_on
returns-then-goes_on g c =
    idle_too (c.in-More.ensures c.args.moments.now)
    (λ none.
    elim c.then-goes_on.branch [
      | then-goes_on-via-then-goes_on w ↦
          last_more c.args.client.now c.write_on.new.client
          (unanswered_some c.write_on.new.client (sym c.may_answer.ensures ∙ c.if-may_answer.false)
          (sym c.goes_on.ensures ∙ w.if-goes_on.true))
      | then-goes_on-via-else-goes_on+then-not-is_written w ↦
          last_more c.args.client.now c.write_on.new.client
          (let some : w.is_written.result ≡ false = cc in sym w.is_written.ensures ∙ some)
    ])

pub returns : goal.returns
returns g c =
    then_one (c.in-More.ensures c.args.moments.now)
    (goes
    (λ standing.
    Finished
    (last_finished c.write_on.new.client (sym c.goes_on.ensures ∙ c.if-goes_on.false)
    (let written : c.is_written.result ≡ true = cc in sym c.is_written.ensures ∙ written))
    refl))
    (λ none. inr refl) refl
