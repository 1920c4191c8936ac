use Rattle.std.proofs.Common.{◌≡◌, [], ◌∷◌, ◌++◌, Some, ap, ◌∙◌}
use Rattle.serde_json.specs.Written.{compact_text}
use Rattle.wire.specs.Reply.{refusal_data}
use Rattle.bodies.specs.Answer.{plain_answer, text_of}
use Rattle.bodies.specs.SampleBook.{opened}
use Rattle.bodies.proofs.printing.printed.Goals as goal
use Rattle.bodies.proofs.printing.printed.Goals.{in-Body, in-Refused+in_ok-line-in-Refused}

pub returns : goal.returns
returns c =
    let told = plain_answer (Some opened) c.args.body.now 0 in
    let line : c.match-respond_plain.line.items ≡ text_of told = elim c.match-respond_plain.branch [
      | in-Body w ↦
          ap (λ v. v.items) w.line-is
          ∙ ap text_of (rw (w.in-Body.is, c.in_ok-book.ensures.first) at c.respond_plain.ensures.told (λ is. cc))
      | in-Refused+in_ok-line-in-Refused w ↦
          ap (λ v. v.items) w.line-is
          ∙ w.in_ok-line-in-Refused.ensures
          ∙ ap (λ name. compact_text (refusal_data name)) w.name.ensures
          ∙ ap text_of (rw c.in_ok-book.ensures.first at w.in-Refused.ensures.told (λ is. cc))
    ] in
    c.in_ok-push.ensures.items ∙ ap (λ text. text ++ 10 ∷ []) line
