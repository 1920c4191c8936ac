use Rattle.std.proofs.Common.{◌≡◌, ◌∙◌, inl, inr, false, refl, sym}
use Rattle.polling.specs.Seating.{has_no_more}
use Rattle.polling.specs.declared.step.Step.TheVariants.{More, Waits, Goes}
use Rattle.polling.proofs.ThenLemmas.{idle_too, other_idle}
use Rattle.polling.proofs.WrittenLemmas.{last_more}
use Rattle.polling.proofs.finishing.write_left.Goals as goal

pub returns-then-is_written : goal.returns-then-is_written
returns-then-is_written g c =
    (More, (has_no_more c.args.client.now c.write_on.new.client, inr (refl, refl), c.in-More.ensures))

pub returns-else-is_written : goal.returns-else-is_written
returns-else-is_written g c = (
  More,
  (
    false,
    inl (refl, refl),
    λ moments. idle_too (c.in-More.ensures moments)
        (λ none.
        last_more c.args.client.now c.write_on.new.client (sym c.is_written.ensures ∙ c.if-is_written.false)),
  ),
)

pub returns-in-Waits : goal.returns-in-Waits
returns-in-Waits g c =
    (Waits, (false, inl (refl, refl), λ moments. other_idle Waits (λ (is : Waits ≡ More). cc) (c.in-Waits.ensures moments)))

pub returns-in-Goes : goal.returns-in-Goes
returns-in-Goes g c =
    (Goes, (false, inl (refl, refl), λ moments. other_idle Goes (λ (is : Goes ≡ More). cc) (c.in-Goes.ensures moments)))
