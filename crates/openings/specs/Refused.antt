-- What an opening or a making that was refused leaves in two files, and tells.
use Rattle.std.specs.Prelude.{◌≡◌, false, IsTrue}
use Rattle.sqlite_disk.specs.declared.Disk as disk
use Rattle.sqlite_disk.specs.declared.Files.{Files}
use Rattle.sqlite_wal.specs.Reads.{AreClean}
use Rattle.openings.specs.Found.{FilesStay, IsOfLedger, LeavesNew, LeavesUnopened}
use Rattle.openings.specs.Told.{IsToldOfMaking}
use Rattle.openings.specs.declared.opening.OpenFault.{OpenFault}
use Rattle.openings.specs.declared.refused.Refused.{Refused}

-- where it is told that they stand, they hold what they held, and so it is told of each fault of
-- the ledger that is there; else the database's own opening refused them
pub record LeavesAsTold {D : Type 0} (g : disk.Ghosts D) (files : Files D) (refused : Refused)
    (left : Files D) : Type 0 where
  pub stand : IsTrue refused.stands → FilesStay g files left
  pub unopened : refused.stands ≡ false → LeavesUnopened g files left
  pub of_ledger : IsOfLedger refused.fault → IsTrue refused.stands

-- a making refuses the files: the case that it tells is there, and the files hold what they held,
-- or, where something was unavailable, perhaps the whole new ledger
pub record RefusesToMake {D : Type 0} (g : disk.Ghosts D) (files : Files D)
    (refused : OpenFault × Files D) : Type 0 where
  pub told :
      AreClean g refused.1.log refused.1.db → IsToldOfMaking g files refused.0 refused.1
  pub left : LeavesNew g files refused.0 refused.1
  pub stay : IsOfLedger refused.0 → FilesStay g files refused.1
