use Rattle.std.proofs.Common.{refl, ap, ◌∙◌}
use Rattle.wire.specs.Told.{outcome_text}
use Rattle.service.proofs.batches.reply_to_batch.Goals as goal

pub returns-in-ClockExhausted : goal.returns-in-ClockExhausted
returns-in-ClockExhausted g c told so = rw c.in-ClockExhausted.is refl

pub returns-in_ok-reply_to-in-Done : goal.returns-in_ok-reply_to-in-Done
returns-in_ok-reply_to-in-Done g c told so =
    rw c.in-Done.is
    (c.in_ok-reply_to-in-Done.ensures
    ∙ ap outcome_text
    (so c.in-Done.clock c.in-Done.results.items c.shows.result (rw c.into.ensures at c.shows.ensures)))
