use Rattle.std.proofs.Common.{◌≡◌, ◌-◌, ◌∙◌, refl, ap, subst, Some, length, drop, arith}
use Rattle.std.proofs.lemmas.Grind.{common_steps}
use Rattle.std.proofs.lemmas.List.{drop_all}
use Rattle.ledger_http.specs.Reading.{FallsShort}
use Rattle.ledger_http.proofs.BrokenLemmas.{at_error}
use Rattle.ledger_http.proofs.message.read_body.Goals as goal

pub returns-in_err-fill_message-clause-broken : goal.returns-in_err-fill_message-clause-broken
returns-in_err-fill_message-clause-broken g c =
    at_error c.from_residual.result _ (λ bytes known.
    let due : length c.deref_mut.result.now - length c.args.head.now ≡ c.args.size = grind (arith, common_steps) in
    subst (FallsShort bytes (g.R.Source.left c.fill_message.new.reader)) due
    (c.in_err-fill_message.ensures.broken bytes known))

pub returns-then-branch-size-clause-read : goal.returns-then-branch-size-clause-read
returns-then-branch-size-clause-read g c bytes known =
    let fills = c.in_ok-fill_message.ensures.bytes bytes known in
    let room : length (drop (length c.args.head.now) c.fill_message.new.room) ≡ c.args.size = grind (arith, common_steps) in
    let all : c.in_ok-fill_message.field-0 ≡ length bytes = fills.all (omega arith) in
    (refl, omega arith, fills.rest ∙ ap (λ xs. Some xs) (drop_all c.in_ok-fill_message.field-0 bytes (omega arith)))
