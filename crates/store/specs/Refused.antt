-- What a store's opening that is refused tells and leaves.
use Rattle.sqlite_disk.specs.declared.Disk as disk
use Rattle.sqlite_disk.specs.declared.Files.{Files}
use Rattle.sqlite_wal.specs.Reads.{AreClean}
use Rattle.openings.specs.Found.{FilesStay, IsOfLedger}
use Rattle.openings.specs.Opened.{LeavesRefused}
use Rattle.openings.specs.Told.{IsFaultTold}
use Rattle.openings.specs.declared.opening.OpenFault.{OpenFault}

-- an opening refuses the files: the case that it tells is there, and the files hold what they held
pub record RefusesToOpen {D : Type 0} (g : disk.Ghosts D) (files : Files D)
    (refused : OpenFault × Files D) : Type 0 where
  pub told : AreClean g refused.1.log refused.1.db → IsFaultTold g files refused.0 refused.1
  pub left : LeavesRefused g files refused.1
  pub stay : IsOfLedger refused.0 → FilesStay g files refused.1
