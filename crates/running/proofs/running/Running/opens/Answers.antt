use Rattle.std.proofs.Common.{refl, sym, ◌∙◌}
use Rattle.std.proofs.lemmas.Bool.{false≢true}
use Rattle.std.proofs.lemmas.Option.{none-some}
use Rattle.running.proofs.AppliedEntry.{verdict_by}
use Rattle.running.proofs.running.Running.opens.Goals as goal

pub returns-in-Accept : goal.returns-in-Accept
returns-in-Accept c m is =
    let verdict = verdict_by m c.args.self.now c.args.account.now c.account.result c.without_balances-old.result c.event_of_account-ev.result (c.account.ensures m is) c.without_balances-old.ensures c.event_of_account-ev.ensures in
    (λ t. verdict ∙ c.in-Accept.ensures.decision.0, λ none. refl)

pub returns-in-Refuse : goal.returns-in-Refuse
returns-in-Refuse c m is =
    let verdict = verdict_by m c.args.self.now c.args.account.now c.account.result c.without_balances-old.result c.event_of_account-ev.result (c.account.ensures m is) c.without_balances-old.ensures c.event_of_account-ev.ensures in
    (λ t. absurd (false≢true t), λ none. absurd (none-some _ (sym none ∙ verdict ∙ c.in-Refuse.ensures.decision)))
