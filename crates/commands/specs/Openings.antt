-- The faults of openings.
use Rattle.sqlite_disk.specs.declared.Disk as disk
use Rattle.sqlite_disk.specs.declared.Files.{Files}
use Rattle.sqlite_wal.specs.Reads.{AreClean}
use Rattle.sqlite_wal.specs.Recovery.{Image}
use Rattle.sqlite.specs.Effect.{Database}
use Rattle.audit.specs.declared.damage.Damage.{Damage}
use Rattle.openings.specs.Found.{FindsOne, AreOnlyThere, Yields}
use Rattle.openings.specs.Told.{Warrants}
use Rattle.openings.specs.declared.opening.OpenFault.{OpenFault}
use Rattle.openings.specs.declared.opening.OpenFault.TheVariants as opening
use Rattle.migrate.specs.Told.{TellsAny}
use Rattle.command_texts.specs.declared.fault.Fault.{Fault}
use Rattle.command_texts.specs.declared.fault.Fault.TheVariants as told

-- the fault that the program tells where a file is not opened
abbrev pub open_fault : OpenFault → Fault
open_fault opening.InUse = told.InUse
open_fault opening.Unreadable = told.Unreadable
open_fault opening.NotALedger = told.NotALedger
open_fault opening.OldSchema = told.OldSchema
open_fault opening.NewerSchema = told.NewerSchema
open_fault (opening.Damaged damage) = told.Damaged
open_fault (opening.Unavailable why) = told.Unavailable

-- a fault of an opening
abbrev pub IsOpeningFault : Fault → Type 0
IsOpeningFault told.InUse = Unit {0}
IsOpeningFault told.Unreadable = Unit {0}
IsOpeningFault told.NotALedger = Unit {0}
IsOpeningFault told.OldSchema = Unit {0}
IsOpeningFault told.NewerSchema = Unit {0}
IsOpeningFault told.Damaged = Unit {0}
IsOpeningFault told.Behind = Unit {0}
IsOpeningFault told.Unavailable = Unit {0}
IsOpeningFault other = ⊥

-- a fault that is told before files are opened
abbrev pub IsUnopened : Fault → Type 0
IsUnopened told.Unreadable = Unit {0}
IsUnopened told.NotALedger = Unit {0}
IsUnopened told.Unavailable = Unit {0}
IsUnopened other = ⊥

-- a fault because of FILE-sums
abbrev pub IsUnmarked : Fault → Type 0
IsUnmarked told.InUse = Unit {0}
IsUnmarked told.Behind = Unit {0}
IsUnmarked other = ⊥

module _ (Finds : OpenFault → Type 0) where
  -- what is told of a ledger's version, or of its rows, was found
  abbrev pub IsFoundFault : OpenFault → Type 0
  IsFoundFault opening.OldSchema = Finds opening.OldSchema
  IsFoundFault opening.NewerSchema = Finds opening.NewerSchema
  IsFoundFault (opening.Damaged damage) = Finds (opening.Damaged damage)
  IsFoundFault other = Unit {0}

  -- so it was where the program tells such a fault
  abbrev pub IsFoundSo : Fault → Type 0
  IsFoundSo told.InUse = Unit {0}
  IsFoundSo told.Unreadable = Unit {0}
  IsFoundSo told.NotALedger = Unit {0}
  IsFoundSo told.OldSchema = Finds opening.OldSchema
  IsFoundSo told.NewerSchema = Finds opening.NewerSchema
  IsFoundSo told.Damaged = (damage : Damage) × Finds (opening.Damaged damage)
  IsFoundSo told.Behind = Unit {0}
  IsFoundSo told.Unavailable = Unit {0}
  IsFoundSo other = ⊥

module _ {D : Type 0} (g : disk.Ghosts D) where
  -- an opening found this case in what the files held, unless the disk had lied, and they hold it
  -- yet
  pub record HasFound (Tells : OpenFault → Database → Type 0) (image : Image) (fault : OpenFault)
      : Type 0 where
    pub left : Files D
    pub is : AreClean g left.log left.db → FindsOne (Tells fault) image
    pub stays : Yields g left (AreOnlyThere image)

  -- the fault of an opening of a ledger in files that held this
  abbrev pub RefusesImage : Image → Fault → Type 0
  RefusesImage image = IsFoundSo (HasFound Warrants image)

  -- the same of an opening to migrate it
  abbrev pub RefusesOlder : Image → Fault → Type 0
  RefusesOlder image = IsFoundSo (HasFound TellsAny image)

  -- an opening found this case in some files
  abbrev pub HasFoundSome : OpenFault → Type 0
  HasFoundSome fault = (image : Image) × HasFound Warrants image fault

  -- the fault of an opening of a ledger in some files
  abbrev pub RefusesSome : Fault → Type 0
  RefusesSome = IsFoundSo HasFoundSome
