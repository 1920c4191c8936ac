-- What a migration answers, and what it leaves of a ledger.
use Rattle.std.specs.Prelude.{◌≡◌, ◌≢◌, ◌<◌, ◌≤◌, ℕ, false, Result, Err, IsOk, IfErr, OnOk, OnErr, IsTrue}
use Rattle.records.specs.declared.unavailable.Unavailable.TheVariants.{Disk as DiskFailed}
use Rattle.sqlite_disk.specs.declared.Disk as disk
use Rattle.sqlite.specs.State.{State, HasCleanDisk, Survives}
use Rattle.ledger_sql.specs.Frames.{Live}
use Rattle.openings.specs.Damage.{HasFirstDamage}
use Rattle.migrate.specs.Faults.{IfMigrationDamaged}
use Rattle.migrate.specs.Ledgers.{IsMigratable, state_of}
use Rattle.openings.specs.Opened.{IsSoundIn}
use Rattle.migrate.specs.Upgrading.{HasRisen, KeepsMachines, Raised}
use Rattle.migrate.specs.declared.fault.MigrateFault.{MigrateFault}
use Rattle.migrate.specs.declared.fault.MigrateFault.TheVariants.{NewerSchema, Unavailable}
use Rattle.migrate.specs.declared.ledger.LedgerOfVersion.{LedgerOfVersion}

-- a call that audits an older ledger first: it answers only if all rows are sound, tells the first
-- damage if it tells any, and never that the ledger is a newer one
pub record LeavesAudited {A : Type 0} (version : ℕ) (old new : State)
    (result : Result A MigrateFault) : Type 0 where
  pub no_newer : result ≢ Err NewerSchema
  pub damaged :
      HasCleanDisk new → IfErr result (λ fault. IfMigrationDamaged fault
      (λ damage. HasFirstDamage version damage old.now.trees))
  pub sound : HasCleanDisk new → OnOk result (IsSoundIn version old.now.trees)

-- a ledger of an older version than this one, which is a known one
pub record IsBelow {D : Type 0} {g : disk.Ghosts D} (to : ℕ) (ledger : LedgerOfVersion D g) :
    Type 0 where
  pub migratable : IsMigratable ledger
  pub older : ledger.version < to
  pub known : to ≤ 3

module _ {D : Type 0} {g : disk.Ghosts D} {A : Type 0} where
  -- just a ledger that is newer than what is asked for is told as one; one that has that version is
  -- answered; and neither changes
  pub record RefusesNewer (to : ℕ) (old new : LedgerOfVersion D g)
      (result : Result A MigrateFault) : Type 0 where
    pub newer : to < old.version → result ≡ Err NewerSchema
    pub no_newer : old.version ≤ to → result ≢ Err NewerSchema
    pub equal : old.version ≡ to → IsOk result
    pub unmoved : to ≤ old.version → new ≡ old

  -- an older ledger is brought to this version: its rows were sound, and what is there has come of
  -- them; one that is not answered is refused
  pub record RaisesLedger (to : ℕ) (old new : LedgerOfVersion D g)
      (result : Result A MigrateFault) : Type 0 where
    pub sound :
        HasCleanDisk (state_of new) → OnOk result
        (IsSoundIn old.version (state_of old).now.trees)
    pub raised :
        HasCleanDisk (state_of new) → OnOk result
        (HasRisen to (state_of old).now (state_of new).now)
    pub refuses :
        old.ready ≡ false → (result ≡ Err (Unavailable DiskFailed)) × (new ≡ old)

  -- whatever a migration answers: the disk was honest, and the database open, if they are after it;
  -- it stays open and is answered as before unless the disk's fault is told, and from then on it is
  -- not answered; a crash leaves what was there, or the newer ledger
  pub record LeavesLedger (to : ℕ) (old new : LedgerOfVersion D g)
      (result : Result A MigrateFault) : Type 0 where
    pub honest : HasCleanDisk (state_of new) → HasCleanDisk (state_of old)
    pub lived : Live (state_of new) → Live (state_of old)
    pub is_open :
        HasCleanDisk (state_of new) → IsTrue old.ready
        → result ≢ Err (Unavailable DiskFailed) → IsTrue (state_of new).is_open
    pub ready : result ≢ Err (Unavailable DiskFailed) → new.ready ≡ old.ready
    pub disk : result ≡ Err (Unavailable DiskFailed) → new.ready ≡ false
    pub finds : Survives (state_of old) (state_of new) (Raised to (state_of old).now)

  -- a migration: answered, the ledger has this version and each tenant's machine; failed, it is as
  -- it was, and the first damage is told if any is
  pub record MigratesLedger (to : ℕ) (old new : LedgerOfVersion D g)
      (result : Result A MigrateFault) : Type 0 where
    pub version : OnOk result (new.version ≡ to)
    pub kept :
        HasCleanDisk (state_of new) → OnOk result
        (KeepsMachines (state_of old).now.trees (state_of new).now.trees)
    pub damaged :
        HasCleanDisk (state_of new) → IfErr result (λ fault. IfMigrationDamaged fault
        (λ damage. HasFirstDamage old.version damage (state_of old).now.trees))
    pub same : Live (state_of new) → OnErr result ((state_of new).now ≡ (state_of old).now)
    pub stays : OnErr result (new.version ≡ old.version)
    pub leaves : LeavesLedger to old new result
