use Rattle.std.proofs.Common.{◌≤◌, sym, ap, ◌∙◌, subst, subst₂}
use Rattle.std.proofs.lemmas.Result.{on_ok_weaker}
use Rattle.records.specs.declared.balances.Balances.{Balances}
use Rattle.records.specs.declared.side.Side.TheVariants.{Debit, Credit}
use Rattle.engine.specs.After.{balances_released}
use Rattle.rows.specs.Changes.{set_both}
use Rattle.running.specs.Holds.{HoldsAccounts}
use Rattle.running.proofs.accounts.release_from.Goals as goal

pub release-released-requires-clause-debit : goal.release-released-requires-clause-debit
release-released-requires-clause-debit c =
    subst (λ (b : Balances). c.args.transfer.now.amount ≤ b.debits.pending) (sym (c.found-debit.ensures c.requires.0 c.requires.2)) c.requires.4

pub release-released-requires-clause-credit : goal.release-released-requires-clause-credit
release-released-requires-clause-credit c =
    subst (λ (b : Balances). c.args.transfer.now.amount ≤ b.credits.pending) (sym (c.found-credit.ensures c.requires.1 c.requires.3)) c.requires.5

pub returns : goal.returns
returns c = on_ok_weaker c.set_both.result (λ step accounts rows debit credit holds of_debit of_credit.
    let amount = c.args.transfer.now.amount in
    subst₂ (λ (x y : Balances). HoldsAccounts accounts (set_both c.args.transfer.now x y rows) c.set_both.new.map)
    (c.release-released.ensures.debit ∙ ap (λ (b : Balances). balances_released Debit b amount) (c.found-debit.ensures debit of_debit))
    (c.release-released.ensures.credit ∙ ap (λ (b : Balances). balances_released Credit b amount) (c.found-credit.ensures credit of_credit))
    (step accounts rows holds)) c.set_both.ensures
