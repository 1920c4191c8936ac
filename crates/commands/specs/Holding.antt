-- What a command has of a ledger where it ends, and how that has come of what the files held.
use Rattle.std.specs.Prelude.{◌≡◌, ℕ, ◌<◌, Bool, true, false, Ok, Err}
use Rattle.sqlite_disk.specs.declared.Disk as disk
use Rattle.sqlite_disk.specs.declared.Files.{Files}
use Rattle.sqlite_wal.specs.Reads.{AreClean}
use Rattle.sqlite_wal.specs.Recovery.{Image}
use Rattle.sqlite.specs.Effect.{Database}
use Rattle.audit.specs.declared.damage.Damage.{Damage}
use Rattle.control.specs.declared.answer.Answer.{Answer}
use Rattle.ledger_sql.specs.Creating.{IsEmptyLedger}
use Rattle.openings.specs.Found.{FindsNoSchema, FindsOne, AreOnlyThere, Yields}
use Rattle.openings.specs.Told.{IsDamagedLedger}
use Rattle.migrate.specs.Ledgers.{IsOpenedToMigrate}
use Rattle.migrate.specs.Migrating.{MigratesLedger, RaisesLedger, RefusesNewer}
use Rattle.migrate.specs.declared.fault.MigrateFault.{MigrateFault}
use Rattle.migrate.specs.declared.ledger.LedgerOfVersion.{LedgerOfVersion}
use Rattle.store.specs.Stores.{IsHonest, IsLive, IsOpenedOn, IsUsable, OfDatabase, OfDatabases}
use Rattle.store.specs.declared.store.Store.{Store}
use Rattle.command_texts.specs.declared.fault.Fault.{Fault}
use Rattle.commands.specs.Migrating.{migrate_fault}
use Rattle.commands.specs.declared.ended.Held.{Held}
use Rattle.commands.specs.declared.ended.Held.TheVariants as held
use Rattle.commands.specs.declared.opening.Audited.{Audited}
use Rattle.commands.specs.declared.opening.Audited.TheVariants.{Sound, Damaged}

-- of what the files held this is the first damage, and they hold it yet
pub record IsDamagedAt {D : Type 0} (g : disk.Ghosts D) (image : Image) (damage : Damage)
    (files : Files D) : Type 0 where
  pub first : AreClean g files.log files.db → FindsOne (IsDamagedLedger damage) image
  pub stays : Yields g files (AreOnlyThere image)

module _ {D : Type 0} {g : disk.Ghosts D} where
  -- it has the ledger, open, and this is so of it
  abbrev pub HasOpened : (Store D g → Type 0) → Held D g → Type 0
  HasOpened P (held.Opened store) = P store
  HasOpened P other = ⊥

  -- it has the ledger in a version to which it was brought
  abbrev pub HasMigrated : (LedgerOfVersion D g → Type 0) → Held D g → Type 0
  HasMigrated P (held.Migrated ledger) = P ledger
  HasMigrated P other = ⊥

  -- it has the files of a damaged ledger
  abbrev pub HasDamaged : (Files D → Type 0) → Held D g → Type 0
  HasDamaged P (held.Damaged files) = P files
  HasDamaged P other = ⊥

  -- it has what the service that has the file answered, and this is so of it
  abbrev pub HasTold : (Answer → Type 0) → Held D g → Type 0
  HasTold P (held.Asked answer) = P answer
  HasTold P other = ⊥

  -- it has such an answer, or else this is so
  abbrev pub HasToldOr : (Answer → Type 0) → (Held D g → Type 0) → Held D g → Type 0
  HasToldOr P Q (held.Asked answer) = P answer
  HasToldOr P Q other = Q other

  -- a store was opened on what the files held, and its rows are those of valid machines
  pub record IsFrom (image : Image) (store : Store D g) : Type 0 where
    pub usable : IsUsable store
    pub opened : IsHonest store → IsOpenedOn image store

  -- a store without tenants, which was made where there was no table, if the disk was honest
  pub record IsNew (image : Image) (store : Store D g) : Type 0 where
    pub live : IsLive store
    pub empty : OfDatabase (λ db. IsEmptyLedger db.trees) store
    pub blank : ∥ FindsNoSchema image ∥₁

  pub record IsMade (image : Image) (store : Store D g) : Type 0 where
    pub usable : IsUsable store
    pub made : IsHonest store → IsNew image store

  -- a store was opened, or is a new one
  abbrev pub IsOpenedOrMade : Bool → Image → Store D g → Type 0
  IsOpenedOrMade true image store = IsMade image store
  IsOpenedOrMade false image store = IsFrom image store

  -- a store has come of one that began so: as long as it is open on an honest disk, this is so of
  -- the database then and now
  pub record ComesOf (Begins : Store D g → Type 0) (P : Database → Database → Type 0)
      (store : Store D g) : Type 0 where
    pub first : Store D g
    pub begun : Begins first
    pub lived : IsLive store → IsLive first
    pub is : IsLive store → OfDatabases P first store

  -- so it is of a store that stays open while the disk is honest
  pub record Becomes (Begins : Store D g → Type 0) (P : Database → Database → Type 0)
      (store : Store D g) : Type 0 where
    pub comes : ComesOf Begins P store
    pub stays : IsHonest store → IsLive store

  -- what an audit of what the files held has found
  abbrev pub IsFoundAs : Image → Audited D g → Type 0
  IsFoundAs image (Sound store) = IsFrom image store
  IsFoundAs image (Damaged damage files) = IsDamagedAt g image damage files

  -- a ledger was opened on what the files held, and then brought to this version
  pub record IsBroughtTo (image : Image) (to : ℕ) (ledger : LedgerOfVersion D g) : Type 0 where
    pub first : LedgerOfVersion D g
    pub opened : IsOpenedToMigrate image first
    pub newer : RefusesNewer {A = Unit {0}} to first ledger (Ok tt)
    pub raised : first.version < to → RaisesLedger {A = Unit {0}} to first ledger (Ok tt)
    pub migrated : MigratesLedger {A = Unit {0}} to first ledger (Ok tt)

module _ {D : Type 0} (g : disk.Ghosts D) where
  -- a ledger was opened on what the files held, and this is why it was not brought to this version
  pub record IsNotBrought (image : Image) (to : ℕ) (fault : Fault) : Type 0 where
    pub first : LedgerOfVersion D g
    pub opened : IsOpenedToMigrate image first
    pub left : LedgerOfVersion D g
    pub why : MigrateFault
    pub told : fault ≡ migrate_fault why
    pub newer : RefusesNewer {A = Unit {0}} to first left (Err why)
    pub migrated : MigratesLedger {A = Unit {0}} to first left (Err why)
