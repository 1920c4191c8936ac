use Rattle.std.proofs.Common.{sym, ◌∙◌}
use Rattle.running.proofs.HeldMaps.{accounts_set, accounts_set_none}
use Rattle.running.proofs.accounts.set_balances.Goals as goal

pub returns-in_default : goal.returns-in_default
returns-in_default c accounts rows holds =
    accounts_set_none accounts rows c.args.id c.args.balances c.args.map.now holds (sym c.get.ensures.value ∙ sym c.copied.ensures ∙ c.in_default.is)

pub returns : goal.returns
returns c accounts rows holds =
    accounts_set accounts rows c.args.id c.args.balances c.in-Some.found c.args.map.now c.insert.new.self holds (sym c.get.ensures.value ∙ sym c.copied.ensures ∙ c.in-Some.is) c.in_ok-insert.ensures.updates.0
