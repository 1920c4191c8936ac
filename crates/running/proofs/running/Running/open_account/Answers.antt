use Rattle.std.proofs.Common.{refl}
use Rattle.running.proofs.NextEntry.{opened}
use Rattle.running.proofs.running.Running.open_account.Goals as goal

pub returns : goal.returns
returns c m is next =
    opened m c.args.account.now c.args.self.now _ is next (c.account_rows.ensures m c.args.account.now is.valid next) c.in_ok-open.ensures refl refl refl refl
