use Rattle.std.proofs.Common.{rules, subst}
use Rattle.amount.specs.Decimal.{HasIdleFront}
use Rattle.amount.proofs.Decimals.{no_idle_front, text_from_read, read_from_text, unread}
use Rattle.amount.proofs.money.Amount.read_decimal.Goals as goal

pub returns-then-has_idle_front-clause-none : goal.returns-then-has_idle_front-clause-none
returns-then-has_idle_front-clause-none c = λ a small is.
    let front : HasIdleFront c.args.text.now = search rules in
    no_idle_front a small (subst HasIdleFront is front)

pub returns-then-has_idle_front-clause-undoes : goal.returns-then-has_idle_front-clause-undoes
returns-then-has_idle_front-clause-undoes c = λ a small is. absurd (returns-then-has_idle_front-clause-none c a small is)

pub returns-clause-text : goal.returns-clause-text
returns-clause-text c =
    let plain : ¬ (HasIdleFront c.args.text.now) = search rules in
    text_from_read c.args.text.now _ _ c.parse.ensures.value.0 plain (search rules)

pub returns-clause-undoes : goal.returns-clause-undoes
returns-clause-undoes c = read_from_text c.args.text.now _ _ c.parse.ensures.value.0 (search rules)

pub returns-clause-none : goal.returns-clause-none
returns-clause-none c = unread c.args.text.now _ (returns-clause-undoes c)
