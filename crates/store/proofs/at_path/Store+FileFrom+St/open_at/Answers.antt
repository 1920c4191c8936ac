use Rattle.std.proofs.Common.{subst}
use Rattle.sqlite_wal.specs.Recovery.{Image}
use Rattle.store.specs.Stores.{IsOpenedOn}
use Rattle.store.proofs.at_path.Store+FileFrom+St.open_at.Goals as goal

pub returns-in-Ok-open-clause-opened : goal.returns-in-Ok-open-clause-opened
returns-in-Ok-open-clause-opened g c honest =
    subst (λ (i : Image). IsOpenedOn i c.in-Ok-open.store) c.in-Ok.ensures.held.holds
    (c.in-Ok-open.ensures.opened honest)

pub returns-in-Err-open-clause-refused : goal.returns-in-Err-open-clause-refused
returns-in-Err-open-clause-refused g c =
    (c.in-Ok.files, c.in-Ok.ensures.held, c.in-Err-open.ensures.refused)
