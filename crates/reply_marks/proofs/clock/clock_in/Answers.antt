use Rattle.std.proofs.Common.{◌≡◌, ◌++◌, ℕ, List, rules}
use Rattle.reply_marks.specs.Replies.{TellsClock}
use Rattle.reply_marks.proofs.ReplyLemmas.{has_brace, has_quote, body_of, told_by}
use Rattle.reply_marks.proofs.clock.clock_in.Goals as goal

pub returns-in_err-_head : goal.returns-in_err-_head
returns-in_err-_head c =
    let none : (clock : ℕ) → TellsClock c.args.reply.now clock → ⊥ = has_brace c.args.reply.now c.in_err-_head.ensures in
    search (rules, none)

pub returns-in_err-text : goal.returns-in_err-text
returns-in_err-text c =
    let none : (clock : ℕ) → TellsClock c.args.reply.now clock → ⊥ =
    λ clock tells. c.in_err-text.ensures _ (body_of _ _ _ c.in_ok-_head.ensures clock tells) in
    search (rules, none)

pub returns-in_err-digits : goal.returns-in_err-digits
returns-in_err-digits c =
    let none : (clock : ℕ) → TellsClock c.args.reply.now clock → ⊥ =
    has_quote _ _ _ c.in_ok-_head.ensures _ c.in_ok-text.ensures c.in_err-digits.ensures in
    search (rules, none)

pub returns : goal.returns
returns c =
    told_by _ _ _ c.in_ok-_head.ensures _ c.in_ok-text.ensures _ _ c.in_ok-digits.ensures c.number.result c.number.ensures
