use Rattle.std.proofs.Common.{◌≡◌, true, rules}
use Rattle.migrate.proofs.ledger.LedgerOfVersion.into_served.Goals as goal

pub returns-clause-serves : goal.returns-clause-serves
returns-clause-serves g c clean =
    let answers : c.args.self.ready ≡ true = search rules in
    let three = c.if-self-lt-CURRENT_VERSION.false in
    let is_open = c.requires.is_open answers clean in
    (is_open, c.requires.current three (clean, is_open))
