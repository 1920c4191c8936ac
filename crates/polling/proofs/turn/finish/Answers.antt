use Rattle.std.proofs.Common.{◌≡◌, ◌∙◌, ap, sym, refl, false, not}
use Rattle.std.proofs.lemmas.Bool.{true≢false}
use Rattle.polling.proofs.ThenLemmas.{idle_too}
use Rattle.polling.proofs.WrittenLemmas.{first_more}
use Rattle.polling.proofs.turn.finish.Goals.{else-answers-via-then-answers+else-is_written, else-answers-via-else-answers}
use Rattle.polling.proofs.turn.finish.Goals as goal

pub returns-then-is_written-clause-turn : goal.returns-then-is_written-clause-turn
returns-then-is_written-clause-turn g c = idle_too c.turn.ensures (λ answered. refl)

pub returns-clause-turn : goal.returns-clause-turn
returns-clause-turn g c =
    idle_too (c.write_on.ensures c.args.moments.now)
    (λ (answered : not c.args.answers ≡ false).
    elim c.else-answers.branch [
      | else-answers-via-then-answers+else-is_written w ↦
          first_more c.args.client.now c.write_on.new.client
          (sym w.is_written.ensures ∙ w.if-is_written.false)
      | else-answers-via-else-answers w ↦
          absurd (true≢false (sym (ap not w.if-answers.false) ∙ answered))
    ])
