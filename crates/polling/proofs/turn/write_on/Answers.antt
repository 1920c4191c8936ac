use Rattle.std.proofs.Common.{◌≡◌, ◌∙◌, ap, sym, inr, false, refl}
use Rattle.clients.specs.Talk.{is_empty}
use Rattle.service.specs.Seen.{Whole}
use Rattle.polling.specs.declared.step.Step.TheVariants as step
use Rattle.polling.proofs.ThenLemmas.{idle_too, other_idle, then_one}
use Rattle.polling.proofs.WrittenLemmas.{empty_so, last_some, some_so, to_be_written}
use Rattle.polling.proofs.turn.write_on.Goals as goal

pub returns-in-Waits : goal.returns-in-Waits
returns-in-Waits g c moments =
    other_idle step.Waits (λ (is : step.Waits ≡ step.More). cc)
    (c.in-Waits.ensures.serves (Whole c.args.ledgers.now) moments)

pub returns-in-Goes : goal.returns-in-Goes
returns-in-Goes g c moments =
    other_idle step.Goes (λ (is : step.Goes ≡ step.More). cc)
    (c.in-Goes.ensures.serves (Whole c.args.ledgers.now) moments)

pub returns-then-not-is_empty : goal.returns-then-not-is_empty
returns-then-not-is_empty g c moments =
    idle_too (c.in-More.ensures.serves (Whole c.args.ledgers.now) moments)
    (λ none.
    last_some c.args.client.now c.write_all.new.client
    (ap is_empty (sym c.unsent.ensures)
    ∙ some_so c.unsent.result.now (let some : c.is_empty.result ≡ false = cc in sym c.is_empty.ensures ∙ some)))

pub returns-in-Some : goal.returns-in-Some
returns-in-Some g c moments =
    then_one (c.in-More.ensures.serves (Whole c.args.ledgers.now) moments) (c.read_part.ensures moments)
    (λ none. inr refl) refl

pub returns-in-None : goal.returns-in-None
returns-in-None g c moments =
    idle_too (c.in-More.ensures.serves (Whole c.args.ledgers.now) moments)
    (to_be_written c.args.client.now c.write_all.new.client c.in-More.ensures.rest
    (sym c.rest.ensures ∙ c.in-None.is)
    (ap is_empty (sym c.unsent.ensures)
    ∙ empty_so c.unsent.result.now (let none = c.if-not-is_empty.false in sym c.is_empty.ensures ∙ none)))
