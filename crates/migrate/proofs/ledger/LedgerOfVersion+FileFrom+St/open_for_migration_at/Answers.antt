use Rattle.std.proofs.Common.{subst}
use Rattle.sqlite_wal.specs.Recovery.{Image}
use Rattle.migrate.specs.Ledgers.{IsOpenedToMigrate}
use Rattle.migrate.proofs.ledger.LedgerOfVersion+FileFrom+St.open_for_migration_at.Goals as goal

pub returns-in-Ok-open_for_migration-clause-opened : goal.returns-in-Ok-open_for_migration-clause-opened
returns-in-Ok-open_for_migration-clause-opened g c =
    subst (λ (i : Image). IsOpenedToMigrate i c.in-Ok-open_for_migration.ledger) c.in-Ok.ensures.held.holds
    c.in-Ok-open_for_migration.ensures.opened

pub returns-in-Err-open_for_migration-clause-refused : goal.returns-in-Err-open_for_migration-clause-refused
returns-in-Err-open_for_migration-clause-refused g c =
    (c.in-Ok.files, c.in-Ok.ensures.held, c.in-Err-open_for_migration.ensures.refused)
