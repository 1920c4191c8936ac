-- What a ledger that was opened to be migrated means.
use Rattle.std.specs.Prelude.{◌<◌, ◌≤◌, IsTrue}
use Rattle.sqlite_disk.specs.declared.Disk as disk
use Rattle.sqlite_disk.specs.declared.Files.{Files}
use Rattle.sqlite_wal.specs.Reads.{AreClean}
use Rattle.sqlite_wal.specs.Recovery.{Image}
use Rattle.sqlite.specs.Files.{file_state}
use Rattle.sqlite.specs.State.{State, HasCleanDisk}
use Rattle.ledger_sql.specs.Frames.{Live}
use Rattle.stored_ledgers.specs.Resting.{IsResting}
use Rattle.openings.specs.Found.{FilesStay, IsOfLedger}
use Rattle.openings.specs.Opened.{WasOpenedOn, LeavesRefused}
use Rattle.openings.specs.Told.{IsToldBy}
use Rattle.openings.specs.declared.opening.OpenFault.{OpenFault}
use Rattle.migrate.specs.Told.{TellsAny}
use Rattle.migrate.specs.Upgrading.{IsKnown, IsLedgerOf, IsOlder, older_schema}
use Rattle.migrate.specs.declared.ledger.LedgerOfVersion.{LedgerOfVersion}

module _ {D : Type 0} {g : disk.Ghosts D} where
  -- the state of its database
  abbrev pub state_of : LedgerOfVersion D g → State
  state_of ledger = file_state ledger.conn

  -- its database, if it is open, is a ledger of its version, which can be served if that is the
  -- current one; where calls are answered it is open
  pub record IsMigratable (ledger : LedgerOfVersion D g) : Type 0 where
    pub known : IsKnown ledger.version
    pub older : ledger.version < 3 → Live (state_of ledger)
        → IsOlder (older_schema ledger.version) (state_of ledger)
    pub current : 3 ≤ ledger.version → Live (state_of ledger)
        → IsResting ledger.due (state_of ledger)
    pub is_open : IsTrue ledger.ready → HasCleanDisk (state_of ledger)
        → IsTrue (state_of ledger).is_open

  -- it was opened on what the files held, and answers calls; it has the tables of its version,
  -- tenants with names, and sound rows
  pub record IsOpenedToMigrate (image : Image) (ledger : LedgerOfVersion D g) : Type 0 where
    pub ready : IsTrue ledger.ready
    pub known : IsKnown ledger.version
    pub sound : HasCleanDisk (state_of ledger) → IsLedgerOf ledger.version (state_of ledger).now
    pub opened : HasCleanDisk (state_of ledger) → WasOpenedOn image (state_of ledger)

-- an opening refuses the files: the case that it tells is there, and it leaves them as each opening
-- does that is refused
pub record RefusesFiles {D : Type 0} (g : disk.Ghosts D) (files : Files D)
    (refused : OpenFault × Files D) : Type 0 where
  pub told :
      AreClean g refused.1.log refused.1.db → IsToldBy TellsAny g files refused.0 refused.1
  pub left : LeavesRefused g files refused.1
  pub stay : IsOfLedger refused.0 → FilesStay g files refused.1
