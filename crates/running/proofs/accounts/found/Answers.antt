use Rattle.std.proofs.Common.{sym, ap, ◌∙◌}
use Rattle.std.specs.Option.{is_some}
use Rattle.std.proofs.lemmas.Option.{same_Some}
use Rattle.records.specs.declared.facts.AccountWithBalances.{AccountWithBalances}
use Rattle.running.proofs.accounts.found.Goals as goal

pub unwrap-requires : goal.unwrap-requires
unwrap-requires c = ap is_some (c.copied.ensures ∙ c.get.ensures.value ∙ c.requires.1.1)

pub returns : goal.returns
returns c balances has =
    ap (λ (a : AccountWithBalances). a.balances) (same_Some _ _ (sym c.unwrap.ensures ∙ c.copied.ensures ∙ c.get.ensures.value ∙ has.1))
