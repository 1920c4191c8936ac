use Rattle.std.proofs.Common.{inl, inr, refl, sym, subst, arith, List, ℕ}
use Rattle.service.specs.Seen.{Whole}
use Rattle.polling.specs.Peers.{Handed}
use Rattle.polling.specs.Standing.{IsFinished, Finished}
use Rattle.polling.proofs.GoingLemmas.{over_finished}
use Rattle.polling.proofs.OneLemmas.{goes, replied, unmoved, whole_unmoved}
use Rattle.polling.proofs.ThenLemmas.{then_one}
use Rattle.polling.proofs.turn.answer_or_read.Goals as goal

pub returns-in-Replied : goal.returns-in-Replied
returns-in-Replied g c =
    then_one
    (replied c.requires
    (c.whole_ledgers_are_seen.ensures c.args.ledgers.now c.answer.new.ledgers c.args.moments.now
    c.answer.new.moments c.args.client.now c.answer.new.self c.in-Replied.ensures.answers.0
    c.in-Replied.ensures.answers.1)
    c.is_settled.ensures
    (subst
    (λ (bytes : List ℕ).
    g.P.Peers.does c.args.peers.now (Handed c.args.number bytes) c.answered.new.self)
    c.unsent.ensures c.answered.ensures))
    (c.write_all.ensures.serves (Whole c.answer.new.ledgers) c.answer.new.moments)
    (λ none. inl refl) refl

pub returns-in-Wanting : goal.returns-in-Wanting
returns-in-Wanting g c =
    then_one (unmoved (whole_unmoved c.in-Wanting.ensures.answers.0))
    (c.read_or_give_up.ensures c.answer.new.moments) (λ none. inr refl) (omega arith)

pub returns-in-Over : goal.returns-in-Over
returns-in-Over g c =
    then_one (unmoved (whole_unmoved c.in-Over.ensures.answers.0))
    (goes
    (λ standing.
    Finished
    (subst IsFinished (sym c.in-Over.ensures.answers.0.same)
    (over_finished c.args.client.now c.requires c.in-Over.ensures.answers.1))
    refl))
    (λ none. inr refl) refl
