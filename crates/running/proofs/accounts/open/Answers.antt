use Rattle.running.proofs.HeldMaps.{accounts_push}
use Rattle.running.proofs.accounts.open.Goals as goal

pub returns : goal.returns
returns c accounts balances holds no_account no_balance =
    accounts_push accounts balances c.args.account.now c.args.map.now c.insert.new.self holds no_account no_balance c.in_ok-insert.ensures.updates.0
